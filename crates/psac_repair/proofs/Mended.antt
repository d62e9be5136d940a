-- What a repair of both sides at once takes from the join of their passes.
use Rattle.std.proofs.Common.{◌≡◌, ℕ}
use Rattle.psac_slots.specs.Handles.{Member}
use Rattle.psac_values.specs.Steps as values
use Rattle.psac_values.specs.Knowing as knowing
use Rattle.psac_readers.specs.Steps as readers
use Rattle.psac_marks.specs.declared.view.SharedView.{SharedView}
use Rattle.psac_marks.specs.Marked.{HasOwn}
use Rattle.psac_marks.specs.Steps as marks
use Rattle.psac_marks.specs.Passes as passes
use Rattle.psac_marks.specs.Passes.{IsKept, IsDropped}
use Rattle.psac_repair.specs.Linked.{LinksOnce}
use Rattle.psac_repair.specs.Going.{Views}
use Rattle.psac_repair.specs.WalkLaws.{Joins}

pub joined : (a c j : Views) → j.values ≡ values.joined a.values c.values → knowing.United a.values c.values j.values
    → j.readers ≡ readers.joined a.readers c.readers → LinksOnce j.readers
    → j.marks ≡ marks.joined a.marks c.marks → passes.United a.marks c.marks j.marks
    → ((x : ℕ) → IsDropped j.marks x → HasOwn j.marks.own x)
    → ((e : SharedView) → Member e j.marks.shared → IsKept j.marks e.node.slot) → Joins a c j
joined a c j v u r o m um d k =
    record {
      values = v;
      united = u;
      readers = r;
      once = o;
      marks = m;
      united_marks = um;
      dropped = d;
      kept = k;
    }
