-- What adds up along the walk of a repair: what each part tells the whole tells, and as each part stands the whole stands.
use Rattle.std.specs.Prelude.{◌≡◌, true, ℕ, ◌+◌, false, List, ◌∷◌, ◌++◌, Option, Some}
use Rattle.psac_ops.specs.declared.plain.Handle.{Handle}
use Rattle.psac_ops.specs.Value.{Value}
use Rattle.psac_ops.specs.Named.{same_handle}
use Rattle.psac_syntax.specs.declared.program.Stmt.{Stmt, out-Stmt}
use Rattle.psac_syntax.specs.declared.program.Stmt.TheOpen.{Stmt-F}
use Rattle.psac_syntax.specs.declared.program.ReadItem.{ReadItem}
use Rattle.psac_syntax.specs.declared.program.Func.{Func}
use Rattle.psac_values.specs.declared.view.ValueView.{ValueView}
use Rattle.psac_values.specs.Steps as values
use Rattle.psac_values.specs.Knowing.{United}
use Rattle.psac_marks.specs.declared.view.MarksView.{MarksView}
use Rattle.psac_marks.specs.Steps as marks
use Rattle.psac_marks.specs.Passes as passes
use Rattle.psac_model.specs.declared.ends.CapKind.{CapKind}
use Rattle.psac_model.specs.Names.{Env}
use Rattle.psac_model.specs.Expression.{Setting}
use Rattle.psac_model.specs.Tree.{Reads}
use Rattle.psac_model.specs.Run.{with_reads}
use Rattle.psac_traced.specs.Rec as rec
use Rattle.psac_traced.specs.Rec.{Rec}
use Rattle.psac_traced.specs.Bodies.{IsCode}
use Rattle.psac_traced.specs.Holds.{EachOf, EachRead}
use Rattle.psac_traced.specs.Mending.{unlike}
use Rattle.psac_traced.specs.Traced.{traced}
use Rattle.psac_cut.specs.CutShort.{cut_short}
use Rattle.psac_traced.specs.Places.{IsApart}
use Rattle.psac_traced.specs.Parts.{IsBody}
use Rattle.psac_trace.specs.Rights.{Tidy, Kept}
use Rattle.psac_trace.specs.Told.{AreChecked, Needs as MayRun}
use Rattle.psac_record.specs.declared.parts.Reading.{Reading}
use Rattle.psac_trace.specs.Fit.{Rooted}
use Rattle.psac_record.specs.Kept as tree
use Rattle.psac_repair.specs.Ended.{Ended, Good, is_other, both_ended, untried_ended, then_ended}
use Rattle.psac_repair.specs.Outcomes.{is_good}
use Rattle.psac_repair.specs.Scope.{GoesAlong, ReadsAlong}
use Rattle.psac_repair.specs.Stood.{Owned}
use Rattle.psac_repair.specs.Seen.{Known, Now}
use Rattle.psac_repair.specs.Wanted.{TellsAll}
use Rattle.psac_repair.specs.Marks.{Present}
use Rattle.psac_repair.specs.Mends.{Tells, TellsPart, Needs}
use Rattle.psac_repair.specs.Divided.{neither, writes_slot, has_node, outside}
use Rattle.psac_repair.specs.Planted.{slots, Planted, Replanted, Halves}

-- along a run of a program that is checked, what a statement asks for begins as the series rule says, over each heap that has
-- what is in scope
abbrev pub SeriesAlong : Type 0
SeriesAlong = (w : Setting Handle) (funcs : List Func) → AreChecked funcs → GoesAlong w funcs × ReadsAlong w

-- the code of a program that is checked, with the setting that it runs in
pub record Program : Type 0 where
  pub setting : Setting Handle
  pub funcs : List Func
  pub main : List Stmt
  pub checked : AreChecked funcs
  pub same : setting.same ≡ same_handle

abbrev pub TellsOf : Program → Rec Handle → ValueView → ValueView → (CapKind → ℕ) → Ended → Type 0
TellsOf g = Tells g.setting g.funcs (IsCode g.funcs g.main)

abbrev pub PartOf : Program → Rec Handle → Rec Handle → ValueView → ValueView → (CapKind → ℕ) → Ended → Type 0
PartOf g = TellsPart g.setting g.funcs (IsCode g.funcs g.main)

abbrev pub NeedsOf : Program → Rec Handle → ValueView → Type 0
NeedsOf g = Needs g.setting g.funcs (IsCode g.funcs g.main)

-- a record that read what is present is kept as it is
abbrev pub QuietIsKept : Type 0
QuietIsKept =
    (g : Program) (v : ValueView) (r : Rec Handle) → Tidy v → IsApart r → Owned v r → EachRead (Present v) r
    → TellsOf g r v v (λ c. 0) (Good r)

-- what was made, and what was written, before the rest
abbrev pub MadeAddsUp : Type 0
MadeAddsUp =
    (g : Program) (v u : ValueView) (m : Handle) (r : Rec Handle) (drawn : CapKind → ℕ) (e : Ended) → IsApart (rec.A m r)
    → Owned v (rec.A m r) → TellsOf g r v u drawn e → TellsOf g (rec.A m r) v u drawn (then_ended (rec.A m) e)

abbrev pub WroteAddsUp : Type 0
WroteAddsUp =
    (g : Program) (v u : ValueView) (m : Handle) (x : Value Handle) (r : Rec Handle) (drawn : CapKind → ℕ) (e : Ended)
    → Owned v (rec.W m x r) → Kept v u → TellsOf g r v u drawn e → TellsOf g (rec.W m x r) v u drawn (then_ended (rec.W m x) e)

-- the body of an `if` or a `call`, as a part of the body that it stands in
abbrev pub InnerAddsUp : Type 0
InnerAddsUp =
    (g : Program) (v u : ValueView) (t r : Rec Handle) (drawn : CapKind → ℕ) (e : Ended) → IsBody t → IsApart (rec.S t r) → Owned v r
    → Kept v u → TellsOf g t v u drawn e → PartOf g t r v u drawn e

-- a part, and the rest behind it
abbrev pub RestAddsUp : Type 0
RestAddsUp =
    (g : Program) (v u x : ValueView) (part rest new : Rec Handle) (drawn more all : CapKind → ℕ) (e : Ended)
    → PartOf g part rest v u drawn (Good new) → Kept u x → ((c : CapKind) → all c ≡ drawn c + more c) → TellsOf g rest u x more e
    → TellsOf g (rec.S part rest) v x all (then_ended (rec.S new) e)

-- both sides of a par, one after the other
abbrev pub TurnsAddUp : Type 0
TurnsAddUp =
    (g : Program) (v u x : ValueView) (l k r : Rec Handle) (drawn more all : CapKind → ℕ) (one two : Ended) → IsApart (rec.S (rec.P l k) r)
    → Owned v k → Owned v r → Kept v u → Kept u x → is_other one ≡ false → ((c : CapKind) → all c ≡ drawn c + more c)
    → TellsOf g l v u drawn one → TellsOf g k u x more two → PartOf g (rec.P l k) r v x all (both_ended one two)

-- the left side alone, where that isn't done
abbrev pub UntriedAddsUp : Type 0
UntriedAddsUp =
    (g : Program) (v u : ValueView) (l k r : Rec Handle) (drawn : CapKind → ℕ) (one : Ended) → IsApart (rec.S (rec.P l k) r) → Owned v k
    → Kept v u → is_good one ≡ false → TellsOf g l v u drawn one → PartOf g (rec.P l k) r v u drawn (untried_ended one)

-- and at once, each on its part of the pass
abbrev pub SidesAddUp : Type 0
SidesAddUp =
    (g : Program) (v a b j : ValueView) (l k r : Rec Handle) (drawn more all : CapKind → ℕ) (one two : Ended)
    → IsApart (rec.S (rec.P l k) r) → Tidy v → Owned v l → Owned v k → Owned v r → Kept (values.left_of (neither l k) (writes_slot k) v) a
    → Kept (values.right_of (neither l k) (writes_slot k) v) b → j ≡ values.joined a b → United a b j
    → ((c : CapKind) → all c ≡ drawn c + more c) → TellsOf g l (values.left_of (neither l k) (writes_slot k) v) a drawn one
    → TellsOf g k (values.right_of (neither l k) (writes_slot k) v) b more two → PartOf g (rec.P l k) r v j all (both_ended one two)

-- a read block, before the rest of the body that it stands in
abbrev pub block_of : Reading → tree.Kept → Rec Handle
block_of b t = tree.bare (tree.R b t)

-- the pass knows what a block read
abbrev pub BlockIsKnown : Type 0
BlockIsKnown = (g : Program) (v : ValueView) (b : Reading) (t : tree.Kept) (r : Rec Handle) → IsApart (rec.S (block_of b t) r) → NeedsOf g (rec.S (block_of b t) r) v → Known v b.reads

-- a block that read what is present, and whose body was gone through
abbrev pub BlockAddsUp : Type 0
BlockAddsUp =
    (g : Program) (v u : ValueView) (level number : ℕ) (saved : Env Handle) (reads : Reads Handle) (t r : Rec Handle) (drawn : CapKind → ℕ) (e : Ended)
    → IsApart (rec.S (rec.R level number saved reads t) r) → EachOf (Present v) reads → Owned v r → Kept v u → TellsOf g t v u drawn e
    → PartOf g (rec.R level number saved reads t) r v u drawn (then_ended (rec.R level number saved reads) e)

-- these are the reads and the body of the read block with this number
abbrev pub IsBlock : Program → ℕ → List ReadItem → List Stmt → Type 0
IsBlock g number items first =
    (s : Stmt) (rest : List Stmt) (line : ℕ) (others : List ReadItem) (body : List Stmt) → out-Stmt s ≡ Stmt-F.Read line number others body → IsCode g.funcs g.main (s ∷ rest) → (items ≡ others) × (first ≡ body)

-- a block that read something else: the tracing run may begin, and what it tells is told of the block
pub record BlockRunsAgain (g : Program) (v : ValueView) (level number : ℕ) (saved : Env Handle) (reads again : Reads Handle) (t r : Rec Handle) (items : List ReadItem) (first : List Stmt) : Type 0 where
  pub begins : NeedsOf g (rec.S (rec.R level number saved reads t) r) v → MayRun g.setting first (with_reads saved items again) v
  pub adds : (u : ValueView) (drawn : CapKind → ℕ) (e : Ended) → Owned v r → Kept v u
      → TellsAll g.setting (traced g.setting g.funcs level) (cut_short g.setting g.funcs level) first (with_reads saved items again) v u drawn e
      → PartOf g (rec.R level number saved reads t) r v u drawn (then_ended (rec.R level number saved again) e)

abbrev pub ChangedAddsUp : Type 0
ChangedAddsUp =
    (g : Program) (v : ValueView) (level number : ℕ) (saved : Env Handle) (reads again : Reads Handle) (t r : Rec Handle) (items : List ReadItem) (first : List Stmt) → IsApart (rec.S (rec.R level number saved reads t) r) → Now v reads again → unlike same_handle reads again ≡ true → IsBlock g number items first → BlockRunsAgain g v level number saved reads again t r items first

-- nodes and marks: what a part begins with, what the rest begins with, and what both leave before their node is cleared
pub record PartsStand (m : MarksView) (us : List ℕ) (above : Option Handle) (n : Handle) (t r : tree.Kept) : Type 0 where
  pub part : Planted m (n.slot ∷ us ++ slots r) (Some n) t
  pub rest : (q : MarksView) (u : tree.Kept) → Replanted m q (n.slot ∷ us ++ slots r) (Some n) t u → Planted q (n.slot ∷ us) (Some n) r
  pub both : (q x : MarksView) (u w : tree.Kept) → Replanted m q (n.slot ∷ us ++ slots r) (Some n) t u → Replanted q x (n.slot ∷ us) (Some n) r w → Halves m x us n t r u w

abbrev pub PartsStandUp : Type 0
PartsStandUp = (m : MarksView) (us : List ℕ) (above : Option Handle) (n : Handle) (t r : tree.Kept) → Planted m us above (tree.S n t r) → PartsStand m us above n t r

-- both sides of a par at once
abbrev pub SidesStandUp : Type 0
SidesStandUp =
    (m a b j : MarksView) (us : List ℕ) (above : Option Handle) (n : Handle) (l r u w : tree.Kept) → Rooted m → Planted m us above (tree.P n l r) → Replanted (marks.left_of (outside m l r) (has_node r) m) a (n.slot ∷ us) (Some n) l u → Replanted (marks.right_of (outside m l r) (has_node r) m) b (n.slot ∷ us) (Some n) r w → j ≡ marks.joined a b → passes.United a b j → Halves m j us n l r u w
