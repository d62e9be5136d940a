-- Sizes that are added up part by part.
use Rattle.std.proofs.Common.{◌≡◌, ℕ, ◌+◌, refl, ap, sym, ◌∙◌, arith, length, add-zero, zero-add, add_assoc}
use Rattle.std.proofs.lemmas.Grind.{common_steps}
use Rattle.psac_model.specs.declared.ends.Size.{Size}
use Rattle.psac_model.specs.Tree.{add_size, no_size, one_r}
use Rattle.psac_model.specs.Plain.{capped, capped_count}
use Rattle.std.proofs.lemmas.List.{length-map}
use Rattle.psac_record.specs.declared.parts.Reading.{Reading}
use Rattle.psac_record.specs.Kept.{Kept, E, R, counts}

-- a count that is cut at the greatest number may be cut on the way
count_left : (a b : ℕ) → capped_count (capped_count a + b) ≡ capped_count (a + b)
count_left a b = grind (arith, common_steps)

count_twice : (a : ℕ) → capped_count (capped_count a) ≡ capped_count a
count_twice a = grind (arith, common_steps)

capped_left : (a b : Size) → capped (add_size (capped a) b) ≡ capped (add_size a b)
capped_left a b =
    rw (count_left a.s b.s, count_left a.p b.p, count_left a.r b.r, count_left a.mods b.mods, count_left a.links b.links) refl

add_none : (a : Size) → add_size a no_size ≡ a
add_none a = rw (add-zero a.s, add-zero a.p, add-zero a.r, add-zero a.mods, add-zero a.links) refl

add_assoc_size : (a b c : Size) → add_size (add_size a b) c ≡ add_size a (add_size b c)
add_assoc_size a b c =
    rw (add_assoc a.s b.s c.s, add_assoc a.p b.p c.p, add_assoc a.r b.r c.r, add_assoc a.mods b.mods c.mods, add_assoc a.links b.links c.links) refl

capped_twice : (a : Size) → capped (capped a) ≡ capped a
capped_twice a = rw (count_twice a.s, count_twice a.p, count_twice a.r, count_twice a.mods, count_twice a.links) refl

-- a size that grew by one part and then by another
grown : (z a b between after : Size) → capped between ≡ capped (add_size z a) → capped after ≡ capped (add_size between b) → capped after ≡ capped (add_size z (add_size a b))
grown z a b between after h k =
    k ∙ sym (capped_left between b) ∙ ap (λ y. capped (add_size y b)) h ∙ capped_left (add_size z a) b ∙ ap capped (add_assoc_size z a b)

grew : (z a after : Size) → after ≡ capped (add_size z a) → capped after ≡ capped (add_size z a)
grew z a after h = ap capped h ∙ capped_twice (add_size z a)

none_add : (a : Size) → add_size no_size a ≡ a
none_add a = rw (zero-add a.s, zero-add a.p, zero-add a.r, zero-add a.mods, zero-add a.links) refl

pub counts_end : (z : Size) (k : Kept) → k ≡ E → capped z ≡ capped (add_size z (counts k))
counts_end z k h = ap capped (sym (add_none z)) ∙ ap (λ k. capped (add_size z (counts k))) (sym h)

pub counts_on : (z one between after : Size) (k rest : Kept) → counts k ≡ add_size one (counts rest) → between ≡ capped (add_size z one) → capped after ≡ capped (add_size between (counts rest)) → capped after ≡ capped (add_size z (counts k))
counts_on z one between after k rest e g h =
    grown z one (counts rest) between after (grew z one between g) h ∙ ap (λ s. capped (add_size z s)) (sym e)

pub counts_two : (z one first second after : Size) (k l r : Kept) → counts k ≡ add_size one (add_size (counts l) (counts r)) → first ≡ capped (add_size z one) → capped second ≡ capped (add_size first (counts l)) → capped after ≡ capped (add_size second (counts r)) → capped after ≡ capped (add_size z (counts k))
counts_two z one first second after k l r e g h i =
    grown z (add_size one (counts l)) (counts r) second after (grown z one (counts l) first second (grew z one first g) h) i
    ∙ ap (λ s. capped (add_size z s)) (add_assoc_size one (counts l) (counts r) ∙ sym e)

pub whole : (all : Size) (k : Kept) → capped all ≡ capped (add_size no_size (counts k)) → capped all ≡ all → all ≡ capped (counts k)
whole all k h fits = sym fits ∙ h ∙ ap capped (none_add (counts k))

pub counts_block : (k rest : Kept) (reading : Reading) (one : Size) (links : ℕ) → k ≡ R reading rest → one ≡ one_r links → links ≡ length reading.reads → counts k ≡ add_size one (counts rest)
counts_block k rest reading one links h o e =
    ap counts h ∙ ap (λ n. add_size (one_r n) (counts rest)) (length-map reading.reads _ ∙ sym e) ∙ ap (λ s. add_size s (counts rest)) (sym o)
