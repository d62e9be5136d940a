-- How long the lists of nodes, links and modifiables are, and that taking a part leaves fewer.
use Rattle.std.proofs.Common.{◌≡◌, ◌∙◌, ◌+◌, ap, sym, refl, List, [], ◌∷◌, ◌++◌, length, map, Option, Some, None, arith, suc, false}
use Rattle.std.proofs.lemmas.Bool.{true≢false}
use Rattle.std.proofs.lemmas.Option.{none-some}
use Rattle.std.proofs.lemmas.List.{length-map, map-append}
use Rattle.std.proofs.Common.{length-append}
use Rattle.psac_ops.specs.declared.plain.Handle.{Handle}
use Rattle.psac_model.specs.Fresh.{nodes_of}
use Rattle.psac_record.specs.Kept.{Kept, E, A, W, S, P, R, counts, nodes_below, nodes_in, links_of, made_of, stands, added, parts, parts_of_all, parted, is_end}

pub nodes_listed : (above : Option Handle) (k : Kept) → length (nodes_below above k) ≡ nodes_of (counts k)
nodes_listed above E = refl
nodes_listed above (A m rest) = let h = nodes_listed above rest in omega arith
nodes_listed above (W m v rest) = nodes_listed above rest
nodes_listed above (S node t rest) =
    let h = nodes_listed (Some node) t in let k = nodes_listed (Some node) rest in let e = length-append (nodes_below (Some node) t) (nodes_below (Some node) rest) in omega arith
nodes_listed above (P node l r) =
    let h = nodes_listed (Some node) l in let k = nodes_listed (Some node) r in let e = length-append (nodes_below (Some node) l) (nodes_below (Some node) r) in omega arith
nodes_listed above (R reading t) = let h = nodes_listed (Some reading.node) t in omega arith

pub links_listed : (k : Kept) → length (links_of k) ≡ (counts k).links
links_listed E = refl
links_listed (A m rest) = let h = links_listed rest in omega arith
links_listed (W m v rest) = links_listed rest
links_listed (S node t rest) = let h = links_listed t in let k = links_listed rest in let e = length-append (links_of t) (links_of rest) in omega arith
links_listed (P node l r) = let h = links_listed l in let k = links_listed r in let e = length-append (links_of l) (links_of r) in omega arith
links_listed (R reading t) =
    let h = links_listed t in let e = length-append (map (stands reading.node) reading.reads) (links_of t) in
    e ∙ ap (λ n. n + length (links_of t)) (length-map reading.reads _) ∙ ap (λ n. length reading.reads + n) h ∙ ap (λ n. n + (counts t).links) (sym (length-map reading.reads _))

pub made_listed : (k : Kept) → length (made_of k) ≡ (counts k).mods
made_listed E = refl
made_listed (A m rest) = let h = made_listed rest in omega arith
made_listed (W m v rest) = made_listed rest
made_listed (S node t rest) = let h = made_listed t in let k = made_listed rest in let e = length-append (made_of t) (made_of rest) in omega arith
made_listed (P node l r) = let h = made_listed l in let k = made_listed r in let e = length-append (made_of l) (made_of r) in omega arith
made_listed (R reading t) = let h = made_listed t in omega arith

pub parts_added : (k : Kept) (more : List Kept) → parts_of_all (added k more) ≡ parts k + parts_of_all more
parts_added E more = omega arith
parts_added (A m rest) more = refl
parts_added (W m v rest) more = refl
parts_added (S node t rest) more = refl
parts_added (P node l r) more = refl
parts_added (R reading t) more = refl

abbrev inside : Option (Kept × List Kept) → Kept × List Kept
inside None = (E, [])
inside (Some p) = p

-- a walk that takes part after part ends
pub parts_less : (old new : List Kept) (k : Kept) → parted old ≡ Some (k, new) → is_end k ≡ false → parts_of_all old ≡ suc (parts_of_all new)
parts_less [] new k h w = absurd (none-some _ h)
parts_less (E ∷ more) new k h w = absurd (true≢false (ap (λ o. is_end (inside o).0) h ∙ w))
parts_less (A m rest ∷ more) new k h w = let e = parts_added rest more in let f = ap (λ o. parts_of_all (inside o).1) h in omega arith
parts_less (W m v rest ∷ more) new k h w = let e = parts_added rest more in let f = ap (λ o. parts_of_all (inside o).1) h in omega arith
parts_less (S node t rest ∷ more) new k h w =
    let e = parts_added rest more in let g = parts_added t (added rest more) in let f = ap (λ o. parts_of_all (inside o).1) h in omega arith
parts_less (P node l r ∷ more) new k h w =
    let e = parts_added r more in let g = parts_added l (added r more) in let f = ap (λ o. parts_of_all (inside o).1) h in omega arith
parts_less (R reading t ∷ more) new k h w = let e = parts_added t more in let f = ap (λ o. parts_of_all (inside o).1) h in omega arith

abbrev handle_of : Handle × Option Handle → Handle
handle_of p = p.0

pub nodes_same : (above : Option Handle) (k : Kept) → map handle_of (nodes_below above k) ≡ nodes_in k
nodes_same above E = refl
nodes_same above (A m rest) = nodes_same above rest
nodes_same above (W m v rest) = nodes_same above rest
nodes_same above (S node t rest) =
    ap (λ x. node ∷ x) (map-append handle_of (nodes_below (Some node) t) (nodes_below (Some node) rest) ∙ ap (λ x. x ++ map handle_of (nodes_below (Some node) rest)) (nodes_same (Some node) t) ∙ ap (λ x. nodes_in t ++ x) (nodes_same (Some node) rest))
nodes_same above (P node l r) =
    ap (λ x. node ∷ x) (map-append handle_of (nodes_below (Some node) l) (nodes_below (Some node) r) ∙ ap (λ x. x ++ map handle_of (nodes_below (Some node) r)) (nodes_same (Some node) l) ∙ ap (λ x. nodes_in l ++ x) (nodes_same (Some node) r))
nodes_same above (R reading t) = ap (λ x. reading.node ∷ x) (nodes_same (Some reading.node) t)
