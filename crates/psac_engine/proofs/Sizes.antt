-- What a record with nodes and links has is its tree's size.
use Rattle.std.proofs.Common.{◌≡◌, ◌∷◌, map, length, Option, Some, refl, ◌∙◌, arith, length-append}
use Rattle.std.proofs.lemmas.List.{length-map}
use Rattle.psac_ops.specs.declared.plain.Handle.{Handle}
use Rattle.psac_ops.specs.Value.{Value}
use Rattle.psac_ops.specs.Named.{value_of}
use Rattle.psac_record.specs.declared.parts.Seen.{Seen}
use Rattle.psac_model.specs.Fresh.{nodes_of}
use Rattle.psac_record.specs.Kept.{Kept, E, A, W, S, P, R, nodes_below, links_of, made_of, counts, stands}

pair_of : Seen → Handle × Value Handle
pair_of s = (s.from, value_of s.value)

pub nodes_count : (par : Option Handle) (k : Kept) → length (nodes_below par k) ≡ nodes_of (counts k)
nodes_count par E = refl
nodes_count par (A m rest) = nodes_count par rest ∙ omega arith
nodes_count par (W m v rest) = nodes_count par rest
nodes_count par (S node t rest) =
    let a = nodes_count (Some node) t in
    let b = nodes_count (Some node) rest in
    let c = length-append ((node, par) ∷ nodes_below (Some node) t) (nodes_below (Some node) rest) in
    omega (arith, a, b, c)
nodes_count par (P node l r) =
    let a = nodes_count (Some node) l in
    let b = nodes_count (Some node) r in
    let c = length-append ((node, par) ∷ nodes_below (Some node) l) (nodes_below (Some node) r) in
    omega (arith, a, b, c)
nodes_count par (R reading t) = let a = nodes_count (Some reading.node) t in omega (arith, a)

pub mods_count : (k : Kept) → length (made_of k) ≡ (counts k).mods
mods_count E = refl
mods_count (A m rest) = let a = mods_count rest in omega (arith, a)
mods_count (W m v rest) = mods_count rest
mods_count (S node t rest) =
    let a = mods_count t in
    let b = mods_count rest in
    let c = length-append (made_of t) (made_of rest) in
    omega (arith, a, b, c)
mods_count (P node l r) =
    let a = mods_count l in
    let b = mods_count r in
    let c = length-append (made_of l) (made_of r) in
    omega (arith, a, b, c)
mods_count (R reading t) = let a = mods_count t in omega (arith, a)

pub links_count : (k : Kept) → length (links_of k) ≡ (counts k).links
unfolding pair_of
links_count E = refl
links_count (A m rest) = let a = links_count rest in omega (arith, a)
links_count (W m v rest) = links_count rest
links_count (S node t rest) =
    let a = links_count t in
    let b = links_count rest in
    let c = length-append (links_of t) (links_of rest) in
    omega (arith, a, b, c)
links_count (P node l r) =
    let a = links_count l in
    let b = links_count r in
    let c = length-append (links_of l) (links_of r) in
    omega (arith, a, b, c)
links_count (R reading t) =
    let a = links_count t in
    let c = length-append (map (stands reading.node) reading.reads) (links_of t) in
    let d = length-map reading.reads (stands reading.node) in
    let e = length-map reading.reads pair_of in
    omega (arith, a, c, d, e)
