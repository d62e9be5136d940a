-- How the parts of a run are put together.
use Rattle.std.proofs.Common.{◌≡◌, ℕ, ◌+◌, refl, ap, sym, ◌∙◌, arith, length, add-zero, add_assoc}
use Rattle.std.proofs.lemmas.Grind.{common_steps}
use Rattle.psac_ops.specs.declared.plain.Handle.{Handle}
use Rattle.psac_ops.specs.Value.{Value}
use Rattle.psac_model.specs.declared.ends.FaultKind.{FaultKind}
use Rattle.psac_model.specs.declared.ends.End.{End}
use Rattle.psac_model.specs.declared.ends.End.TheVariants.{Done, Stop}
use Rattle.psac_model.specs.declared.ends.Size.{Size}
use Rattle.psac_model.specs.Names.{Env}
use Rattle.psac_model.specs.Tree.{E, A, W, S, R, Reads, size_of, add_size, no_size, one_s, one_p, one_r, one_mod}
use Rattle.psac_model.specs.Run.{Ran, under, sequence, both, first_stop}
use Rattle.psac_plain.specs.Slots.{Places}
use Rattle.psac_plain.specs.Running.{Ends, GoesOn}
use Rattle.psac_model.specs.Plain.{capped, capped_count}

-- a count that is cut at the greatest number may be cut on the way
pub count_left : (a b : ℕ) → capped_count (capped_count a + b) ≡ capped_count (a + b)
count_left a b = grind (arith, common_steps)

pub count_twice : (a : ℕ) → capped_count (capped_count a) ≡ capped_count a
count_twice a = grind (arith, common_steps)

pub capped_left : (a b : Size) → capped (add_size (capped a) b) ≡ capped (add_size a b)
capped_left a b =
    rw (count_left a.s b.s, count_left a.p b.p, count_left a.r b.r, count_left a.mods b.mods, count_left a.links b.links) refl

pub add_none : (a : Size) → add_size a no_size ≡ a
add_none a = rw (add-zero a.s, add-zero a.p, add-zero a.r, add-zero a.mods, add-zero a.links) refl

pub add_assoc_size : (a b c : Size) → add_size (add_size a b) c ≡ add_size a (add_size b c)
add_assoc_size a b c =
    rw (add_assoc a.s b.s c.s, add_assoc a.p b.p c.p, add_assoc a.r b.r c.r, add_assoc a.mods b.mods c.mods, add_assoc a.links b.links c.links) refl

pub capped_twice : (a : Size) → capped (capped a) ≡ capped a
capped_twice a = rw (count_twice a.s, count_twice a.p, count_twice a.r, count_twice a.mods, count_twice a.links) refl

-- a size that grew by one part and then by another
pub grown : (z a b between after : Size) → capped between ≡ capped (add_size z a) → capped after ≡ capped (add_size between b) → capped after ≡ capped (add_size z (add_size a b))
grown z a b between after h k =
    k ∙ sym (capped_left between b) ∙ ap (λ y. capped (add_size y b)) h ∙ capped_left (add_size z a) b ∙ ap capped (add_assoc_size z a b)

-- what `grow` leaves
pub grew : (z a after : Size) → after ≡ capped (add_size z a) → capped after ≡ capped (add_size z a)
grew z a after h = ap capped h ∙ capped_twice (add_size z a)

pub ends_here : (k : End) (heap : Places) (z : Size) → Ends (record { tree = E; heap = heap; end = k }) k heap z z
ends_here k heap z = record { end = refl; heap = refl; size = ap capped (sym (add_none z)) }

pub ends_made : {r : Ran Handle Places} {told : End} {left : Places} {z between after : Size} → between ≡ capped (add_size z one_mod) → Ends r told left between after → Ends (under A r) told left z after
ends_made {r} {told} {left} {z} {between} {after} g h =
    record { end = h.end; heap = h.heap; size = grown z one_mod (size_of r.tree) between after (grew z one_mod between g) h.size }

pub ends_written : (m : Handle) (v : Value Handle) {r : Ran Handle Places} {told : End} {left : Places} {z after : Size} → Ends r told left z after → Ends (under (W m v) r) told left z after
ends_written m v h = record { end = h.end; heap = h.heap; size = h.size }

pub ends_block : (block : ℕ) (env : Env Handle) (reads : Reads Handle) {r : Ran Handle Places} {told : End} {left : Places} {z between after : Size} → between ≡ capped (add_size z (one_r (length reads))) → Ends r told left between after → Ends (under (R block env reads) r) told left z after
ends_block block env reads {r} {told} {left} {z} {between} {after} g h =
    record { end = h.end; heap = h.heap; size = grown z (one_r (length reads)) (size_of r.tree) between after (grew z (one_r (length reads)) between g) h.size }

-- what follows a compound statement that stops, and one that is done
pub sequence_stops : (t : Ran Handle Places) (rest : Places → Ran Handle Places) (k : FaultKind) (n : ℕ) → Stop k n ≡ t.end → sequence t rest ≡ record { tree = S t.tree E; heap = t.heap; end = Stop k n }
sequence_stops t rest k n e = rw (sym e) refl

pub sequence_goes_on : (t : Ran Handle Places) (rest : Places → Ran Handle Places) → Done ≡ t.end → sequence t rest ≡ under (S t.tree) (rest t.heap)
sequence_goes_on t rest e = rw (sym e) refl

pub ends_stop : (t : Ran Handle Places) (rest : Places → Ran Handle Places) (k : FaultKind) (n : ℕ) {left : Places} {z first after : Size} → first ≡ capped (add_size z one_s) → Ends t (Stop k n) left first after → Ends (sequence t rest) (Stop k n) left z after
ends_stop t rest k n {left} {z} {first} {after} g h =
    rw (sequence_stops t rest k n h.end) (record { end = refl; heap = h.heap; size = grown z one_s (size_of t.tree) first after (grew z one_s first g) h.size ∙ ap (λ b. capped (add_size z (add_size one_s b))) (sym (add_none (size_of t.tree))) })

pub ends_on : (t : Ran Handle Places) (rest : Places → Ran Handle Places) {told : End} {mid left : Places} {z first between after : Size} → first ≡ capped (add_size z one_s) → Ends t Done mid first between → Ends (rest mid) told left between after → Ends (sequence t rest) told left z after
ends_on t rest {told} {mid} {left} {z} {first} {between} {after} g h k =
    rw (sequence_goes_on t rest h.end, sym h.heap) (record {
      end = k.end;
      heap = k.heap;
      size =
          grown z (add_size one_s (size_of t.tree)) (size_of (rest mid).tree) between after (grown z one_s (size_of t.tree) first between (grew z one_s first g) h.size) k.size
          ∙ ap (λ b. capped (add_size z b)) (add_assoc_size one_s (size_of t.tree) (size_of (rest mid).tree));
    })

pub ends_next : (t : Ran Handle Places) (rest : Places → Ran Handle Places) (one : End) {told : End} {mid left : Places} {z first between after : Size} → first ≡ capped (add_size z one_s) → Ends t one mid first between → GoesOn one (rest mid) told mid left between after → Ends (sequence t rest) told left z after
ends_next t rest Done g h k = ends_on t rest g h k
ends_next t rest (Stop why n) {told} {mid} {left} {z} {first} {between} {after} g h k =
    rw (k.0, k.1, k.2) (ends_stop t rest why n g h)

pub ends_both : (l : Ran Handle Places) (right : Places → Ran Handle Places) {one two : End} {mid left : Places} {z first between after : Size} → first ≡ capped (add_size z one_p) → Ends l one mid first between → Ends (right mid) two left between after → Ends (both l right) (first_stop one two) left z after
ends_both l right {one} {two} {mid} {left} {z} {first} {between} {after} g h k =
    rw (sym h.heap) (record {
      end = rw (sym h.end, sym k.end) refl;
      heap = k.heap;
      size =
          grown z (add_size one_p (size_of l.tree)) (size_of (right mid).tree) between after (grown z one_p (size_of l.tree) first between (grew z one_p first g) h.size) k.size
          ∙ ap (λ b. capped (add_size z b)) (add_assoc_size one_p (size_of l.tree) (size_of (right mid).tree));
    })
