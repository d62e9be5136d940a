-- Each read of a new record names an input, or what the record made.
use Rattle.std.proofs.Common.{◌<◌, List, [], ◌∷◌, map, subst, inl, inr, ⊎_elim}
use Rattle.psac_ops.specs.declared.plain.Handle.{Handle}
use Rattle.psac_slots.specs.Handles.{Member}
use Rattle.psac_slots.proofs.Pairs.{member_cases, member_left, member_right}
use Rattle.psac_traced.specs.Rec as rec
use Rattle.psac_traced.specs.Rec.{Rec}
use Rattle.psac_traced.specs.Places.{Makes}
use Rattle.psac_traced.specs.Mending.{made_by}
use Rattle.psac_traced.specs.Scoped.{ReadsOf, Reading}
use Rattle.psac_traced.proofs.Scoped.{scoped_reads}
use Rattle.psac_record.specs.declared.parts.Seen.{Seen}
use Rattle.psac_record.specs.Kept.{Kept, E, A, W, S, P, R, Stands, stands, links_of, made_of, reads_of, bare}
use Rattle.psac_reclaim.specs.Owed.{IsNamed}
use Rattle.psac_stage.specs.Reclaiming.{NamesStand}

makes_member : (r : Rec Handle) (m : Handle) → Makes r m → Member m (made_by r)
makes_member rec.E m i = absurd i
makes_member (rec.A n r) m (inl e) = inl e
makes_member (rec.A n r) m (inr i) = inr (makes_member r m i)
makes_member (rec.W n v r) m i = makes_member r m i
makes_member (rec.S t r) m (inl i) = member_left m (made_by t) (made_by r) (makes_member t m i)
makes_member (rec.S t r) m (inr i) = member_right m (made_by t) (made_by r) (makes_member r m i)
makes_member (rec.P l r) m (inl i) = member_left m (made_by l) (made_by r) (makes_member l m i)
makes_member (rec.P l r) m (inr i) = member_right m (made_by l) (made_by r) (makes_member r m i)
makes_member (rec.R room block env reads t) m i = makes_member t m i

module _ (L : Handle → Type 0) where
  read_in : (node : Handle) (reads : List Seen) → ReadsOf L (reads_of reads) → (s : Stands) → Member s (map (stands node) reads) → L s.of
  read_in node [] h s i = absurd i
  read_in node (x ∷ reads) h s (inl e) = subst (λ (y : Stands). L y.of) e h.0.0.0
  read_in node (x ∷ reads) h s (inr i) = read_in node reads h.1 s i

  links_in : (k : Kept) → Reading L (bare k) → (s : Stands) → Member s (links_of k) → L s.of
  links_in E h s i = absurd i
  links_in (A m r) h s i = links_in r h s i
  links_in (W m v r) h s i = links_in r h s i
  links_in (S n t r) h s i = ⊎_elim (λ j. links_in t h.0 s j) (λ j. links_in r h.1 s j) (member_cases s (links_of t) (links_of r) i)
  links_in (P n l r) h s i = ⊎_elim (λ j. links_in l h.0 s j) (λ j. links_in r h.1 s j) (member_cases s (links_of l) (links_of r) i)
  links_in (R b t) h s i = ⊎_elim (λ j. read_in b.node b.reads h.0 s j) (λ j. links_in t h.1 s j) (member_cases s (map (stands b.node) b.reads) (links_of t) i)

pub names_stand : NamesStand
names_stand fixed new h s i =
    let L : Handle → Type 0 = IsNamed fixed (made_of new) in
    links_in L new (scoped_reads (λ m. m.slot < fixed) L (bare new) (λ m j. inl j) (λ m j. inr (makes_member (bare new) m j)) h) s i
