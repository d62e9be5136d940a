-- What a call made, by how it ended: behind what was made before, and round what was recorded.
use Rattle.std.proofs.Common.{◌≡◌, ◌+◌, ◌≤◌, List, [], ◌∷◌, ◌++◌, map, Option, Some, None, refl, ap, sym, ◌∙◌, subst, arith, length, length-append}
use Rattle.psac_ops.specs.declared.plain.Handle.{Handle}
use Rattle.psac_ops.specs.declared.plain.Plain.{Plain}
use Rattle.psac_fork.specs.declared.tables.Pass.{Pass}
use Rattle.psac_fork.specs.declared.tables.Tables.{Tables}
use Rattle.psac_fork.specs.Whole.{HasRoom}
use Rattle.psac_marks.specs.declared.view.OwnView.{OwnView}
use Rattle.psac_model.specs.declared.ends.CapKind.{CapKind}
use Rattle.psac_model.specs.declared.ends.CapKind.TheVariants as cap
use Rattle.psac_traced.specs.Rec as rec
use Rattle.psac_traced.specs.Rec.{Rec}
use Rattle.psac_record.specs.declared.parts.Reading.{Reading}
use Rattle.psac_record.specs.Kept.{Kept, E, S, P, R, bare, nodes_below, stands}
use Rattle.psac_trace.specs.Grown.{Made, nothing, followed, made_below, claims_in, as_own, Moves, Cause, IsFull}
use Rattle.psac_trace.specs.Told.{Ended, Good, Fault, Other, what, then_ended, bared, is_other, first_why, both_ended, Follows}
use Rattle.psac_trace.specs.Raising.{puts, Rewrote}
use Rattle.psac_trace.specs.Running.{RoomAfter, AtMost, AllMade, FullBy, nodes_only, read_made}
use Rattle.psac_trace.proofs.Claims.{append_none}
use Rattle.psac_trace.proofs.Moving.{each_cap, moves_then, full_then}
use Rattle.psac_trace.proofs.Rewriting.{rewrote_then}

-- ends without nodes and links

pub bared_then : (f : Kept → Kept) (F : Rec Handle → Rec Handle) → ((k : Kept) → bare (f k) ≡ F (bare k)) → (e : Ended Kept) → bared (then_ended f e) ≡ then_ended F (bared e)
bared_then f F h (Good k) = ap (λ z. Good z) (h k)
bared_then f F h (Fault k i n) = ap (λ z. Fault z i n) (h k)
bared_then f F h (Other k why) = ap (λ z. Other z why) (h k)

pub what_bared : (e : Ended Kept) → what (bared e) ≡ bare (what e)
what_bared (Good k) = refl
what_bared (Fault k i n) = refl
what_bared (Other k why) = refl

pub what_then : (f : Kept → Kept) (e : Ended Kept) → what (then_ended f e) ≡ f (what e)
what_then f (Good k) = refl
what_then f (Fault k i n) = refl
what_then f (Other k why) = refl

pub same_what : (e o : Ended Kept) → Follows e o → what e ≡ what o
same_what e (Good k) h = ap what h
same_what e (Fault k i n) h = ap what h
same_what e (Other k (Some c)) h = ap what h
same_what e (Other k None) h = h

pub why_bared : (why : Option Cause) (e : Ended Kept) → first_why why (bared e) ≡ first_why why e
why_bared None e = refl
why_bared (Some c) (Good k) = refl
why_bared (Some c) (Fault k i n) = refl
why_bared (Some c) (Other k None) = refl
why_bared (Some c) (Other k (Some d)) = refl

pub bared_both : (par : Handle) (one two : Ended Kept) → bared (both_ended (P par) one two) ≡ both_ended rec.P (bared one) (bared two)
bared_both par (Good l) (Good r) = refl
bared_both par (Good l) (Fault r k n) = refl
bared_both par (Good l) (Other r why) = refl
bared_both par (Fault l k n) (Good r) = refl
bared_both par (Fault l k n) (Fault r j m) = refl
bared_both par (Fault l k n) (Other r why) = refl
bared_both par (Other l why) e =
    ap (λ z. Other (rec.P (bare l) z) (first_why why e)) (sym (what_bared e)) ∙ ap (λ z. Other (rec.P (bare l) (what (bared e))) z) (sym (why_bared why e))

pub follows_bared : (e o : Ended Kept) → Follows e o → Follows (bared e) (bared o)
follows_bared e (Good k) h = ap bared h
follows_bared e (Fault k i n) h = ap bared h
follows_bared e (Other k (Some c)) h = ap bared h
follows_bared e (Other k None) h = what_bared e ∙ ap bare h

pub other_bared : (e : Ended Kept) → is_other (bared e) ≡ is_other e
other_bared (Good k) = refl
other_bared (Fault k i n) = refl
other_bared (Other k why) = refl

-- room

pub room_over : (p : Pass) → HasRoom p → (c : CapKind) → (claims_in c p).over ≡ 0
room_over p h = each_cap (λ c. (claims_in c p).over ≡ 0) h.2 h.0 h.1

pub room_from : (p : Pass) → ((c : CapKind) → (claims_in c p).over ≡ 0) → HasRoom p
room_from p h = (h cap.Mods, h cap.Links, h cap.Nodes)

pub room_follows : (q : Pass) (e o : Ended Kept) → Follows e o → RoomAfter q e → RoomAfter q o
room_follows q e (Good k) f h = subst (RoomAfter q) f h
room_follows q e (Fault k i n) f h = subst (RoomAfter q) f h
room_follows q e (Other k why) f h = tt

pub room_then : (q : Pass) (f : Kept → Kept) (e : Ended Kept) → RoomAfter q e → RoomAfter q (then_ended f e)
room_then q f (Good k) h = h
room_then q f (Fault k i n) h = h
room_then q f (Other k why) h = tt

-- a full table

pub full_follows : (p q : Pass) (e o : Ended Kept) → Follows e o → FullBy p q e → FullBy p q o
full_follows p q e (Good k) f h = tt
full_follows p q e (Fault k i n) f h = tt
full_follows p q e (Other k (Some c)) f h = subst (FullBy p q) f h
full_follows p q e (Other k None) f h = tt

pub full_wrapped : (p q : Pass) (f : Kept → Kept) (e : Ended Kept) → FullBy p q e → FullBy p q (then_ended f e)
full_wrapped p q f (Good k) h = tt
full_wrapped p q f (Fault k i n) h = tt
full_wrapped p q f (Other k (Some c)) h = h
full_wrapped p q f (Other k None) h = tt

pub full_before : (t : Tables) (p u q : Pass) (a : Made) (e : Ended Kept) → Moves t p u a → FullBy u q e → FullBy p q e
full_before t p u q a (Good k) m h = tt
full_before t p u q a (Fault k i n) m h = tt
full_before t p u q a (Other k (Some c)) m h = full_then t p u q a c m h
full_before t p u q a (Other k None) m h = tt

-- what was made

-- the modifiables that were begun, and no more nodes and links
abbrev pub NoMore : Pass → Made → Made → Type 0
NoMore q made begun = (made.mods ≡ begun.mods) × AtMost q made begun

pub most_same : (q : Pass) → HasRoom q → (made begun : Made) → length made.nodes ≡ length begun.nodes → length made.links ≡ length begun.links → AtMost q made begun
most_same q h made begun n l = let o = h.1 in let k = h.2 in (omega (arith, k, n), omega (arith, o, l))

pub most_is : (q : Pass) → HasRoom q → (made begun : Made) → made ≡ begun → NoMore q made begun
most_is q h made begun e = (ap (λ (z : Made). z.mods) e, most_same q h made begun (ap (λ (z : Made). length z.nodes) e) (ap (λ (z : Made). length z.links) e))

pub all_follows : (g : Kept → Made) (q : Pass) (made : Made) (e o : Ended Kept) → Follows e o → RoomAfter q e → AllMade g q made e → AllMade g q made o
all_follows g q made e (Good k) f r h = subst (AllMade g q made) f h
all_follows g q made e (Fault k i n) f r h = subst (AllMade g q made) f h
all_follows g q made e (Other k (Some c)) f r h = subst (AllMade g q made) f h
all_follows g q made (Good j) (Other k None) f r h = most_is q r made (g k) (h ∙ ap g f)
all_follows g q made (Fault j i n) (Other k None) f r h = most_is q r made (g k) (h ∙ ap g f)
all_follows g q made (Other j why) (Other k None) f r h = subst (λ z. NoMore q made (g z)) f h

pub all_map : (g h : Kept → Made) (f : Kept → Kept) → ((k : Kept) → g k ≡ h (f k)) → (q : Pass) (made : Made) (e : Ended Kept) → AllMade g q made e → AllMade h q made (then_ended f e)
all_map g h f s q made (Good k) a = a ∙ s k
all_map g h f s q made (Fault k i n) a = a ∙ s k
all_map g h f s q made (Other k why) a = subst (NoMore q made) (s k) a

pub most_front : (q : Pass) (m a b : Made) → NoMore q a b → NoMore q (followed m a) (followed m b)
most_front q m a b h =
    let x = length-append m.nodes a.nodes in
    let y = length-append m.nodes b.nodes in
    let x' = length-append m.links a.links in
    let y' = length-append m.links b.links in
    let n = h.1.0 in
    let l = h.1.1 in
    (ap (λ z. m.mods ++ z) h.0, (omega (arith, x, y, n), omega (arith, x', y', l)))

pub all_front : (m : Made) (g : Kept → Made) (q : Pass) (made : Made) (e : Ended Kept) → AllMade g q made e → AllMade (λ k. followed m (g k)) q (followed m made) e
all_front m g q made (Good k) a = ap (followed m) a
all_front m g q made (Fault k i n) a = ap (followed m) a
all_front m g q made (Other k why) a = most_front q m made (g k) a

-- whatever the end, no more was made than was begun
pub all_most : (g : Kept → Made) (q : Pass) (made : Made) (e : Ended Kept) → RoomAfter q e → AllMade g q made e → NoMore q made (g (what e))
all_most g q made (Good k) r a = most_is q r made (g k) a
all_most g q made (Fault k i n) r a = most_is q r made (g k) a
all_most g q made (Other k why) r a = a

-- how records are made up of their parts

map_append : {A B : Type 0} (f : A → B) (xs ys : List A) → map f xs ++ map f ys ≡ map f (xs ++ ys)
map_append f [] ys = refl
map_append f (x ∷ xs) ys = ap (λ z. f x ∷ z) (map_append f xs ys)

abbrev pub inside : Option Handle → Handle → Kept → Made
inside par node t = followed (nodes_only ((node, par) ∷ [])) (made_below (Some node) t)

pub step_made : (par : Option Handle) (node : Handle) (t k : Kept) → followed (inside par node t) (made_below (Some node) k) ≡ made_below par (S node t k)
step_made par node t k =
    let whole : List OwnView → Made = λ ns. record (made_below par (S node t k)) { nodes = as_own (node, par) ∷ ns } in
    ap whole (map_append as_own (nodes_below (Some node) t) (nodes_below (Some node) k))

pub followed_none : (m : Made) → followed m nothing ≡ m
followed_none m =
    ap (λ z. record { mods = z; nodes = m.nodes ++ []; links = m.links ++ [] }) (append_none m.mods)
    ∙ ap (λ z. record { mods = m.mods; nodes = z; links = m.links ++ [] }) (append_none m.nodes)
    ∙ ap (λ z. record { mods = m.mods; nodes = m.nodes; links = z }) (append_none m.links)

pub step_end : (par : Option Handle) (node : Handle) (t : Kept) → inside par node t ≡ made_below par (S node t E)
step_end par node t = sym (followed_none (inside par node t)) ∙ step_made par node t E

pub sides_made : (par : Option Handle) (node : Handle) (l r : Kept) → followed (nodes_only ((node, par) ∷ [])) (followed (made_below (Some node) l) (made_below (Some node) r)) ≡ made_below par (P node l r)
sides_made par node l r =
    let whole : List OwnView → Made = λ ns. record (made_below par (P node l r)) { nodes = as_own (node, par) ∷ ns } in
    ap whole (map_append as_own (nodes_below (Some node) l) (nodes_below (Some node) r))

-- where the right side hasn't begun
pub side_made : (par : Option Handle) (node : Handle) (l : Kept) → followed (nodes_only ((node, par) ∷ [])) (made_below (Some node) l) ≡ made_below par (P node l E)
side_made par node l = ap (followed (nodes_only ((node, par) ∷ []))) (sym (followed_none (made_below (Some node) l))) ∙ sides_made par node l E

pub block_made : (par : Option Handle) (node : Handle) (r : Reading) (t : Kept) → followed (read_made par node r) (made_below (Some r.node) t) ≡ inside par node (R r t)
block_made par node r t =
    let ls = map (stands r.node) r.reads in
    let none : (ls ++ []) ++ [] ≡ ls = append_none (ls ++ []) ∙ append_none ls in
    ap (λ z. record (inside par node (R r t)) { links = z ++ (made_below (Some r.node) t).links }) none

-- what a call does, beside what it tells
pub record Does (g : Kept → Made) (t : Tables) (p q : Pass) (e : Ended Kept) : Type 0 where
  pub made : Made
  pub moves : Moves t p q made
  pub all : AllMade g q made e
  pub room : RoomAfter q e
  pub full : FullBy p q e
  pub words : Rewrote p.values.knows q.values.knows (puts (what e))

-- behind what was made and written before, with its part put round it
pub does_then : (g h : Kept → Made) (f : Kept → Kept) (t : Tables) (p u q : Pass) (m : Made) (e o : Ended Kept) → ((k : Kept) → followed m (g k) ≡ h (f k)) → (ws : List (Handle × Plain)) → ((k : Kept) → ws ++ puts k ≡ puts (f k)) → Moves t p u m → Rewrote p.values.knows u.values.knows ws → Does g t u q e → Follows (then_ended f e) o → Does h t p q o
does_then g h f t p u q m e o s ws more mv w d fo =
    let made = followed m d.made in
    let room = room_then q f e d.room in
    let all = all_map (λ k. followed m (g k)) h f s q made e (all_front m g q d.made e d.all) in
    record {
      made = made;
      moves = moves_then t p u q m d.made mv d.moves;
      all = all_follows h q made (then_ended f e) o fo room all;
      room = room_follows q (then_ended f e) o fo room;
      full = full_follows p q (then_ended f e) o fo (full_wrapped p q f e (full_before t p u q m e mv d.full));
      words = subst (λ k. Rewrote p.values.knows q.values.knows (puts k)) (sym (what_then f e) ∙ same_what (then_ended f e) o fo)
          (subst (Rewrote p.values.knows q.values.knows) (more (what e)) (rewrote_then p.values.knows u.values.knows q.values.knows ws (puts (what e)) mv.stays d.moves.stays w d.words));
    }

-- both sides, of which each made its own
pub all_both : (g : Kept → Made) (l k j : Pass) (a b : Made) (f : Kept → Kept → Kept) (h : Kept → Made) (m : Made) → ((x y : Kept) → followed m (followed (g x) (g y)) ≡ h (f x y))
    → ((c : CapKind) → (claims_in c j).over ≤ (claims_in c l).over + (claims_in c k).over)
    → (one two : Ended Kept) → RoomAfter l one → RoomAfter k two → AllMade g l a one → AllMade g k b two → AllMade h j (followed m (followed a b)) (both_ended f one two)
all_both g l k j a b f h m s over one two ro rt x y = pick one two ro rt x y
  where
    same : (i z : Kept) → a ≡ g i → b ≡ g z → followed m (followed a b) ≡ h (f i z)
    same i z p q = ap (λ n. followed m (followed n b)) p ∙ ap (λ n. followed m (followed (g i) n)) q ∙ s i z

    most : (i z : Kept) → NoMore l a (g i) → NoMore k b (g z) → NoMore j (followed m (followed a b)) (h (f i z))
    most i z p q = subst (NoMore j (followed m (followed a b))) (s i z)
        (most_front j m (followed a b) (followed (g i) (g z))
        (let n = length-append a.nodes b.nodes in
        let n' = length-append (g i).nodes (g z).nodes in
        let l = length-append a.links b.links in
        let l' = length-append (g i).links (g z).links in
        let on = over cap.Nodes in
        let ol = over cap.Links in
        let pn = p.1.0 in
        let pl = p.1.1 in
        let qn = q.1.0 in
        let ql = q.1.1 in
        (ap (λ x. x ++ b.mods) p.0 ∙ ap (λ x. (g i).mods ++ x) q.0, (omega (arith, n, n', on, pn, qn), omega (arith, l, l', ol, pl, ql)))))

    pick : (one two : Ended Kept) → RoomAfter l one → RoomAfter k two → AllMade g l a one → AllMade g k b two → AllMade h j (followed m (followed a b)) (both_ended f one two)
    pick (Good i) (Good z) ro rt p q = same i z p q
    pick (Good i) (Fault z c d) ro rt p q = same i z p q
    pick (Good i) (Other z why) ro rt p q = most i z (all_most g l a (Good i) ro p) q
    pick (Fault i c d) (Good z) ro rt p q = same i z p q
    pick (Fault i c d) (Fault z c' d') ro rt p q = same i z p q
    pick (Fault i c d) (Other z why) ro rt p q = most i z (all_most g l a (Fault i c d) ro p) q
    pick (Other i why) e ro rt p q = most i (what e) p (all_most g k b e rt q)

pub room_both : (q l k : Pass) (f : Kept → Kept → Kept) → (HasRoom l → HasRoom k → HasRoom q) → (one two : Ended Kept) → RoomAfter l one → RoomAfter k two → RoomAfter q (both_ended f one two)
room_both q l k f h (Good x) (Good y) a b = h a b
room_both q l k f h (Good x) (Fault y c d) a b = h a b
room_both q l k f h (Good x) (Other y why) a b = tt
room_both q l k f h (Fault x c d) (Good y) a b = h a b
room_both q l k f h (Fault x c d) (Fault y c' d') a b = h a b
room_both q l k f h (Fault x c d) (Other y why) a b = tt
room_both q l k f h (Other x why) e a b = tt

pub full_both : (p j l l' k k' : Pass) (f : Kept → Kept → Kept) → ((c : Cause) → IsFull l l' c → IsFull p j c) → ((c : Cause) → IsFull k k' c → IsFull p j c) → (one two : Ended Kept) → FullBy l l' one → FullBy k k' two → FullBy p j (both_ended f one two)
full_both p j l l' k k' f hl hk (Good x) (Good y) a b = tt
full_both p j l l' k k' f hl hk (Good x) (Fault y c d) a b = tt
full_both p j l l' k k' f hl hk (Good x) (Other y (Some c)) a b = hk c b
full_both p j l l' k k' f hl hk (Good x) (Other y None) a b = tt
full_both p j l l' k k' f hl hk (Fault x c d) (Good y) a b = tt
full_both p j l l' k k' f hl hk (Fault x c d) (Fault y c' d') a b = tt
full_both p j l l' k k' f hl hk (Fault x c d) (Other y (Some i)) a b = hk i b
full_both p j l l' k k' f hl hk (Fault x c d) (Other y None) a b = tt
full_both p j l l' k k' f hl hk (Other x (Some c)) (Good y) a b = hl c a
full_both p j l l' k k' f hl hk (Other x (Some c)) (Fault y c' d') a b = hl c a
full_both p j l l' k k' f hl hk (Other x (Some c)) (Other y None) a b = tt
full_both p j l l' k k' f hl hk (Other x (Some c)) (Other y (Some d)) a b = hl c a
full_both p j l l' k k' f hl hk (Other x None) e a b = tt
