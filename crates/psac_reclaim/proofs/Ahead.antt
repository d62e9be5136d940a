-- The first part of the subtrees that are left goes back.
use Rattle.std.proofs.Common.{◌<◌, List, ◌++◌, sym, subst}
use Rattle.psac_ops.specs.declared.plain.Handle.{Handle}
use Rattle.psac_slots.specs.Handles.{Member}
use Rattle.psac_slots.proofs.Pairs.{member_left}
use Rattle.psac_values.specs.declared.view.ValueView.{ValueView}
use Rattle.psac_values.specs.Knowing.{IsOut}
use Rattle.psac_marks.specs.declared.view.MarksView.{MarksView}
use Rattle.psac_readers.specs.declared.view.ReadersView.{ReadersView}
use Rattle.psac_record.specs.Kept.{Kept, made_of, links_of, Stands}
use Rattle.psac_reclaim.specs.Parts.{nodes_of, in_all, made_here, node_here, links_here}
use Rattle.psac_reclaim.specs.Gave.{ValuesGave, MarksGave, MayRelease, MayGo, Cleaned, sets_of}
use Rattle.psac_reclaim.specs.Going.{ValuesGoing, ReadersGoing, MarksGoing}
use Rattle.psac_reclaim.proofs.Giving.{values_then, marks_then}
use Rattle.psac_reclaim.proofs.Parted.{Parted}
use Rattle.psac_reclaim.proofs.Steps.{values_may, values_step, marks_may, marks_step, readers_step}

module _ (tree : Kept) (ks : List Kept) (k : Kept) (rest : List Kept) (p : Parted ks k rest) where
  values_ahead : (v : ValueView) → ValuesGoing (made_of tree) (in_all made_of ks) v → ValuesGoing (made_of tree) (made_here k ++ in_all made_of rest) v
  values_ahead v g = subst (λ (z : List Handle). ValuesGoing (made_of tree) z v) p.made g

  marks_ahead : (v : MarksView) → MarksGoing (nodes_of tree) (in_all nodes_of ks) v → MarksGoing (nodes_of tree) (node_here k ++ in_all nodes_of rest) v
  marks_ahead v g = subst (λ (z : List Handle). MarksGoing (nodes_of tree) z v) p.nodes g

  readers_ahead : (v : ReadersView) → ReadersGoing (links_of tree) (in_all links_of ks) v → ReadersGoing (links_of tree) (links_here k ++ in_all links_of rest) v
  readers_ahead v g = subst (λ (z : List Stands). ReadersGoing (links_of tree) z v) p.links g

  pub made_may : (v : ValueView) → ValuesGoing (made_of tree) (in_all made_of ks) v → (m : Handle) → Member m (made_here k) → IsOut m v × (m.generation < 4294967295)
  made_may v g = values_may (made_of tree) (made_here k) (in_all made_of rest) v (values_ahead v g)

  pub node_may : (v : MarksView) → MarksGoing (nodes_of tree) (in_all nodes_of ks) v → (n : Handle) → Member n (node_here k) → MayRelease n v
  node_may v g = marks_may (nodes_of tree) (node_here k) (in_all nodes_of rest) v (marks_ahead v g)

  pub links_may : (v : ReadersView) → ReadersGoing (links_of tree) (in_all links_of ks) v → (s : Stands) → Member s (links_here k) → MayGo s v
  links_may v g s m =
      let a = readers_ahead v g in
      let i = member_left s (links_here k) (in_all links_of rest) m in
      record { inside = a.inside s i; low = a.low s i; left = a.left s i }

  pub values_next : (v w : ValueView) → ValuesGoing (made_of tree) (in_all made_of ks) v → ValuesGave (made_here k) v w → ValuesGoing (made_of tree) (in_all made_of rest) w
  values_next v w g d = values_step (made_of tree) (made_here k) (in_all made_of rest) v w (values_ahead v g) d

  pub marks_next : (v w : MarksView) → MarksGoing (nodes_of tree) (in_all nodes_of ks) v → MarksGave (node_here k) v w → MarksGoing (nodes_of tree) (in_all nodes_of rest) w
  marks_next v w g d = marks_step (nodes_of tree) (node_here k) (in_all nodes_of rest) v w (marks_ahead v g) d

  pub readers_next : (v w : ReadersView) → ReadersGoing (links_of tree) (in_all links_of ks) v → Cleaned (sets_of (links_here k)) v w → ReadersGoing (links_of tree) (in_all links_of rest) w
  readers_next v w g c = readers_step (links_of tree) (links_here k) (in_all links_of rest) v w (readers_ahead v g) c

  pub values_onward : (v u w : ValueView) → ValuesGave (made_here k) v u → ValuesGave (in_all made_of rest) u w → ValuesGave (in_all made_of ks) v w
  values_onward v u w a b = subst (λ (z : List Handle). ValuesGave z v w) (sym p.made) (values_then (made_here k) (in_all made_of rest) v u w a b)

  pub marks_onward : (v u w : MarksView) → MarksGave (node_here k) v u → MarksGave (in_all nodes_of rest) u w → MarksGave (in_all nodes_of ks) v w
  marks_onward v u w a b = subst (λ (z : List Handle). MarksGave z v w) (sym p.nodes) (marks_then (node_here k) (in_all nodes_of rest) v u w a b)
