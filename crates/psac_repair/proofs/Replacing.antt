-- What a pass made and dropped, part by part, is what the new record has in place of the old one.
use Rattle.std.proofs.Common.{◌≡◌, ℕ, true, if◌then◌else◌, List, [], ◌∷◌, ◌++◌, map, Option, refl, ap, sym, ◌∙◌, subst}
use Rattle.std.proofs.lemmas.List.{map-append}
use Rattle.psac_ops.specs.declared.plain.Handle.{Handle}
use Rattle.psac_ops.specs.declared.plain.Plain.{Plain}
use Rattle.psac_ops.specs.Named.{same_handle}
use Rattle.psac_marks.specs.declared.view.OwnView.{OwnView}
use Rattle.psac_model.specs.Tree.{Reads}
use Rattle.psac_traced.specs.Mending.{unlike}
use Rattle.psac_record.specs.declared.parts.Reading.{Reading}
use Rattle.psac_record.specs.Kept.{Kept, E, A, W, S, P, R, nodes_in, nodes_below, made_of, reads_of, all_of, added}
use Rattle.psac_record.proofs.Listed.{nodes_same}
use Rattle.psac_trace.specs.Grown.{as_own, made_below, Made, nodes_in as handles_in}
use Rattle.psac_repair.specs.Planted.{slots}
use Rattle.psac_repair.specs.Rewired.{reads_in}
use Rattle.psac_repair.specs.Taking.{taken, given}
use Rattle.psac_repair.specs.Exchanged.{Exchanged, Replaced}
use Rattle.psac_repair.proofs.Counting.{all_both}
use Rattle.psac_repair.proofs.Exchanging.{one_added, exchanged_kept, exchanged_made, exchanged_wrote}
use Rattle.psac_repair.proofs.Exchanging.{exchanged_parts, exchanged_block, exchanged_again}
use Rattle.psac_repair.proofs.Quiet.{like_itself}

-- nothing was run again
pub like_is : (reads : Reads Handle) (a b : List Kept) → (if unlike same_handle reads reads then a else b) ≡ b
like_is reads a b = ap (λ z. if z then a else b) (like_itself reads)

same_reads : (reads : Reads Handle) (a b : List Kept) → b ≡ [] → (if unlike same_handle reads reads then a else b) ≡ []
same_reads reads a b e = like_is reads a b ∙ e

pub taken_same : (k : Kept) → taken k k ≡ []
taken_same E = refl
taken_same (A m k) = taken_same k
taken_same (W m v k) = taken_same k
taken_same (S n t k) = ap (λ z. z ++ taken k k) (taken_same t) ∙ taken_same k
taken_same (P n t k) = ap (λ z. z ++ taken k k) (taken_same t) ∙ taken_same k
taken_same (R b t) = same_reads (reads_of b.reads) (added t []) (taken t t) (taken_same t)

pub given_same : (k : Kept) → given k k ≡ []
given_same E = refl
given_same (A m k) = given_same k
given_same (W m v k) = given_same k
given_same (S n t k) = ap (λ z. z ++ given k k) (given_same t) ∙ given_same k
given_same (P n t k) = ap (λ z. z ++ given k k) (given_same t) ∙ given_same k
given_same (R b t) = same_reads (reads_of b.reads) (added t []) (given t t) (given_same t)

-- a part and the rest, or both sides, with what was run again in each
pub both_all : {X : Type 0} (f : Kept → List X) (xs ys : List Kept) (a b : List X) → a ≡ all_of f xs → b ≡ all_of f ys
    → a ++ b ≡ all_of f (xs ++ ys)
both_all f xs ys a b e g = ap (λ z. z ++ b) e ∙ ap (λ z. all_of f xs ++ z) g ∙ sym (all_both f xs ys)

pub replaced_kept : (k : Kept) → Replaced k k [] [] []
replaced_kept k =
    record {
      mods_are = sym (ap (all_of made_of) (given_same k));
      nodes_are = sym (ap (all_of nodes_in) (given_same k));
      gone_are = sym (ap (all_of slots) (taken_same k));
      exchanged = subst (λ z. Exchanged k k z (given k k)) (sym (taken_same k))
          (subst (Exchanged k k []) (sym (given_same k)) (exchanged_kept k));
    }

module _ (mods nodes : List Handle) (gone : List ℕ) where
  pub replaced_made : (m : Handle) (k u : Kept) → Replaced k u mods nodes gone → Replaced (A m k) (A m u) mods nodes gone
  replaced_made m k u a =
      let e = exchanged_made m k u (taken k u) (given k u) a.exchanged in
      record { mods_are = a.mods_are; nodes_are = a.nodes_are; gone_are = a.gone_are; exchanged = e }

  pub replaced_wrote : (m : Handle) (x : Plain) (k u : Kept) → Replaced k u mods nodes gone → Replaced (W m x k) (W m x u) mods nodes gone
  replaced_wrote m x k u a =
      let e = exchanged_wrote m x x k u (taken k u) (given k u) a.exchanged in
      record { mods_are = a.mods_are; nodes_are = a.nodes_are; gone_are = a.gone_are; exchanged = e }

  pub replaced_block : (b : Reading) (t u : Kept) → Replaced t u mods nodes gone → Replaced (R b t) (R b u) mods nodes gone
  replaced_block b t u a =
      let off = sym (like_is (reads_of b.reads) (added t []) (taken t u)) in
      let on = sym (like_is (reads_of b.reads) (added u []) (given t u)) in
      record {
        mods_are = a.mods_are ∙ ap (all_of made_of) on;
        nodes_are = a.nodes_are ∙ ap (all_of nodes_in) on;
        gone_are = a.gone_are ∙ ap (all_of slots) off;
        exchanged = subst (λ z. Exchanged (R b t) (R b u) z (given (R b t) (R b u))) off
            (subst (Exchanged (R b t) (R b u) (taken t u)) on (exchanged_block b t u (taken t u) (given t u) a.exchanged));
      }

  -- both sides of a par
  pub replaced_pair : (n : Handle) (t k u w : Kept) → Replaced (S n t k) (S n u w) mods nodes gone
      → Replaced (P n t k) (P n u w) mods nodes gone
  replaced_pair n t k u w a =
      let s = a.exchanged in
      record {
        mods_are = a.mods_are;
        nodes_are = a.nodes_are;
        gone_are = a.gone_are;
        exchanged = record { nodes = s.nodes; mods = s.mods; links = s.links; created = s.created; dropped = s.dropped };
      }

-- a part and the rest
module _ (n : Handle) (t k u w : Kept) (mods left_mods : List Handle) (nodes left_nodes : List OwnView) (gone left : List ℕ) where
  abbrev both_nodes : List Handle
  both_nodes = handles_in (nodes ++ left_nodes)

  nodes_both : Replaced t u mods (handles_in nodes) gone → Replaced k w left_mods (handles_in left_nodes) left
      → both_nodes ≡ all_of nodes_in (given t u ++ given k w)
  nodes_both a b =
      map-append (λ (o : OwnView). o.node) nodes left_nodes
      ∙ both_all nodes_in (given t u) (given k w) (handles_in nodes) (handles_in left_nodes) a.nodes_are b.nodes_are

  pub replaced_parts : Replaced t u mods (handles_in nodes) gone → Replaced k w left_mods (handles_in left_nodes) left
      → Replaced (S n t k) (S n u w) (mods ++ left_mods) both_nodes (gone ++ left)
  replaced_parts a b =
      record {
        mods_are = both_all made_of (given t u) (given k w) mods left_mods a.mods_are b.mods_are;
        nodes_are = nodes_both a b;
        gone_are = both_all slots (taken t u) (taken k w) gone left a.gone_are b.gone_are;
        exchanged = exchanged_parts n t k u w (taken t u) (taken k w) (given t u) (given k w) a.exchanged b.exchanged;
      }

-- the nodes of a subtree, without their parents
own_handles : (ns : List (Handle × Option Handle)) → handles_in (map as_own ns) ≡ map (λ (p : Handle × Option Handle). p.0) ns
own_handles [] = refl
own_handles (n ∷ ns) = ap (λ z. n.0 ∷ z) (own_handles ns)

-- a block that ran again, where this is all that its run made
pub replaced_again : (b c : Reading) (t u : Kept) (par : Option Handle) (made : Made) → c.node ≡ b.node → reads_in c ≡ reads_in b
    → unlike same_handle (reads_of b.reads) (reads_of c.reads) ≡ true → made ≡ made_below par u
    → Replaced (R b t) (R c u) made.mods (handles_in made.nodes) (slots t)
replaced_again b c t u par made node reads other is =
    let off : added t [] ≡ taken (R b t) (R c u) = ap (λ z. if z then added t [] else taken t u) (sym other) in
    let on : added u [] ≡ given (R b t) (R c u) = ap (λ z. if z then added u [] else given t u) (sym other) in
    record {
      mods_are = ap (λ (m : Made). m.mods) is ∙ sym (one_added made_of refl u) ∙ ap (all_of made_of) on;
      nodes_are = ap (λ (m : Made). handles_in m.nodes) is ∙ own_handles (nodes_below par u) ∙ nodes_same par u
          ∙ sym (one_added nodes_in refl u) ∙ ap (all_of nodes_in) on;
      gone_are = sym (one_added slots refl t) ∙ ap (all_of slots) off;
      exchanged = subst (λ z. Exchanged (R b t) (R c u) z (given (R b t) (R c u))) off
          (subst (Exchanged (R b t) (R c u) (added t [])) on (exchanged_again b c t u node reads other));
    }
