-- What follows from what a run tells.
use Rattle.std.specs.Prelude.{sum_by, cond}
use Rattle.std.proofs.Common.{◌≡◌, ◌≢◌, ℕ, zero, suc, ◌<◌, List, [], ◌∷◌, length, slice_index_or, Contains, AllPairs, refl, ap, sym, subst, inl, inr, arith}
use Rattle.std.proofs.lemmas.List.Kept.{AllPairs-cons}
use Rattle.psac_ops.specs.declared.plain.Handle.{Handle}
use Rattle.psac_slots.specs.Handles.{Member}
use Rattle.psac_values.specs.declared.view.ValueView.{ValueView}
use Rattle.psac_readers.specs.Chained.{named}
use Rattle.psac_record.specs.Kept.{Stands, made_of}
use Rattle.psac_laws.proofs.Places.{nat_same}
use Rattle.psac_trace.specs.Grown.{Differ, MoreValues, as_link}
use Rattle.psac_trace.specs.Told.{Good, Fault, Other}
use Rattle.psac_trace.specs.Laws.{NewMade, RunsTellAll, SidesAddUp, LinksStandOnce}
use Rattle.psac_trace.proofs.Leading.{member_sum, zero_or}
use Rattle.psac_trace.proofs.Rewriting.{rewrote_joined}

member_at : (xs : List Handle) (k : ℕ) (d : Handle) → k < length xs → Member (slice_index_or xs k d) xs
member_at [] k d h = absurd (omega (arith, h))
member_at (x ∷ xs) zero d h = inl refl
member_at (x ∷ xs) (suc k) d h = inr (member_at xs k d (omega (arith, h)))

pub contains_member : (xs : List Handle) (m : Handle) → Contains xs m → Member m xs
contains_member xs m c = subst (λ z. Member z xs) c.2 (member_at xs c.0 m c.1)

pub differ_pairs : (ms : List Handle) → Differ ms → AllPairs (λ x y. x ≢ y) ms
differ_pairs [] h = λ i j d a b. absurd (omega (arith, b))
differ_pairs (m ∷ ms) h =
    AllPairs-cons (λ x y. x ≢ y) m ms
    (λ k d l e. h.0 (slice_index_or ms k d) (member_at ms k d l) (ap (λ (z : Handle). z.slot) (sym e)))
    (differ_pairs ms h.1)

pub new_made : (v u : ValueView) (ms : List Handle) → MoreValues v u ms → NewMade v u ms
new_made v u ms m =
    record {
      distinct = differ_pairs ms m.differ;
      lacked = λ x c. m.lacked x (contains_member ms x c);
      has = λ x c. m.has x (contains_member ms x c);
    }

pub runs_tell : RunsTellAll
runs_tell w funcs room olds t body env par p q (Good k) l base st end meets ready =
    let told = l.tells base st end meets ready in
    let made = subst (λ z. MoreValues p.values.knows q.values.knows z) (ap (λ z. z.mods) l.all) l.moves.values in
    (told.0, told.1, told.2, new_made p.values.knows q.values.knows (made_of k) made)
runs_tell w funcs room olds t body env par p q (Fault k i n) l base st end meets ready =
    let told = l.tells base st end meets ready in
    let made = subst (λ z. MoreValues p.values.knows q.values.knows z) (ap (λ z. z.mods) l.all) l.moves.values in
    (told.0, told.1, told.2, new_made p.values.knows q.values.knows (made_of k) made)
runs_tell w funcs room olds t body env par p q (Other k why) l base st end meets ready =
    let told = l.tells base st end meets ready in
    let made = subst (λ z. MoreValues p.values.knows q.values.knows z) l.all.0 l.moves.values in
    (told.1, new_made p.values.knows q.values.knows (made_of k) made)

pub sides_add : SidesAddUp
sides_add shared to_right v l r j a b t kl kr is un ra rb = rewrote_joined shared to_right v t l r j kl kr is un a b ra rb

pub links_once : LinksStandOnce
links_once v u entered m =
    let f : ℕ → Stands → ℕ = λ l s. named l (as_link s) in
    record {
      distinct = λ l.
          elim (zero_or (sum_by (f l) entered)) [
            | inl z ↦ omega (arith, z)
            | inr z ↦ (let a = m.links (named l) in let b = m.once l z in omega (arith, a, b))
          ];
      lacked = λ s i.
          let l = s.link.index in
          let one : f l s ≡ 1 = ap {B = ℕ} (λ b. cond b 1 0) (nat_same l) in
          let z = member_sum (f l) s entered i (omega (arith, one)) in
          let a = m.links (named l) in
          let b = m.once l z in
          omega (arith, a, b, z);
      stays = λ before l.
          elim (zero_or (sum_by (f l) entered)) [
            | inl z ↦ (let a = m.links (named l) in let b = before l in omega (arith, a, b, z))
            | inr z ↦ m.once l z
          ];
    }
