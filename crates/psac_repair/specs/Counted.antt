-- How many slots a repair drew, and how often it looked at words and asked for marks.
use Rattle.std.specs.Prelude.{◌≡◌, ℕ, zero, suc, ◌+◌, ◌*◌, ◌≤◌, ◌<◌, true, if◌then◌else◌, length, Option}
use Rattle.psac_ops.specs.declared.plain.Handle.{Handle}
use Rattle.psac_ops.specs.Named.{same_handle}
use Rattle.psac_values.specs.declared.view.ValueView.{ValueView}
use Rattle.psac_values.specs.Steps as values
use Rattle.psac_marks.specs.declared.view.MarksView.{MarksView}
use Rattle.psac_marks.specs.Steps as marks
use Rattle.psac_model.specs.declared.ends.CapKind.{CapKind}
use Rattle.psac_cut.specs.Within.{count_of}
use Rattle.psac_traced.specs.Rec as rec
use Rattle.psac_traced.specs.Rec.{Rec}
use Rattle.psac_traced.specs.Mending.{Mending, mended, unlike}
use Rattle.psac_record.specs.declared.parts.Reading.{Reading}
use Rattle.psac_record.specs.Kept.{Kept, A, W, S, P, R, links_of, reads_of, bare}
use Rattle.psac_trace.specs.Grown.{count, made_below}
use Rattle.psac_trace.specs.Looks.{writes_in}
use Rattle.psac_repair.specs.Divided.{has_node, outside}
use Rattle.psac_repair.specs.WatchLaws.{left_view, right_view}

-- what a repair did
abbrev pub done : Kept → Kept → Mending Handle
done old new = mended same_handle (bare old) (bare new)

-- the slots of a table that stand in place of what ran again
abbrev pub drawn_for : CapKind → Mending Handle → ℕ
drawn_for c d = count_of c d.added

-- a number, where something ran again
abbrev pub where_any : ℕ → ℕ → ℕ
where_any zero n = 0
where_any (suc rerun) n = n

-- a look at each read of a block that ran again or stands round one that did, and the looks of the runs: one for each link, and at most one for each write
abbrev pub looks_for : Kept → Kept → ℕ
looks_for (A m old) (A n new) = looks_for old new
looks_for (W m v old) (W n u new) = looks_for old new
looks_for (S n t old) (S k u new) = looks_for t u + looks_for old new
looks_for (P n l r) (P k u w) = looks_for l u + looks_for r w
looks_for (R b t) (R c u) =
    if unlike same_handle (reads_of b.reads) (reads_of c.reads) then length b.reads + (length (links_of u) + writes_in u) else where_any (done t u).rerun (length b.reads + looks_for t u)
looks_for _ _ = 0

-- one ask, and four for each node that was visited
abbrev pub asks_for : Mending Handle → ℕ
asks_for d = 1 + 4 * d.visited

-- from these views to those it looked and asked no more
pub record Spent (v u : ValueView) (m n : MarksView) (old new : Kept) : Type 0 where
  pub looks : u.looks ≤ v.looks + looks_for old new
  pub asks : n.asks ≤ m.asks + asks_for (done old new)

-- slots
abbrev pub DrawnKept : Type 0
DrawnKept = (c : CapKind) (k : Kept) → drawn_for c (done k k) ≡ 0

abbrev pub DrawnParts : Type 0
DrawnParts =
    (c : CapKind) (t k u w : Rec Handle) → drawn_for c (mended same_handle (rec.S t k) (rec.S u w)) ≡ drawn_for c (mended same_handle t u) + drawn_for c (mended same_handle k w)

abbrev pub DrawnSides : Type 0
DrawnSides =
    (c : CapKind) (l k u w : Rec Handle) → drawn_for c (mended same_handle (rec.P l k) (rec.P u w)) ≡ drawn_for c (mended same_handle l u) + drawn_for c (mended same_handle k w)

-- behind a fault there is no record
abbrev pub DrawnStopped : Type 0
DrawnStopped = (c : CapKind) (k : Rec Handle) → drawn_for c (mended same_handle k rec.E) ≡ 0

abbrev pub DrawnBlock : Type 0
DrawnBlock = (c : CapKind) (b : Reading) (t u : Kept) → drawn_for c (done (R b t) (R b u)) ≡ drawn_for c (done t u)

abbrev pub DrawnAgain : Type 0
DrawnAgain = (c : CapKind) (above : Option Handle) (b d : Reading) (t u : Kept) → unlike same_handle (reads_of b.reads) (reads_of d.reads) ≡ true → drawn_for c (done (R b t) (R d u)) ≡ count c (made_below above u)

-- looks and asks. A node is gone into only where something below it runs again
abbrev pub SpentKept : Type 0
SpentKept = (v u : ValueView) (m n : MarksView) (k : Kept) → u.looks ≡ v.looks → n.asks ≤ m.asks + 1 → Spent v u m n k k

abbrev pub SpentParts : Type 0
SpentParts =
    (v u z : ValueView) (m x y q : MarksView) (n : Handle) (t k a b : Kept) → 0 < (done (S n t k) (S n a b)).rerun → x.asks ≤ m.asks + 1 → Spent v u x y t a → Spent u z y q k b → Spent v z m q (S n t k) (S n a b)

abbrev pub SpentTurns : Type 0
SpentTurns =
    (v u z : ValueView) (m x y q : MarksView) (n : Handle) (l k a b : Kept) → 0 < (done (P n l k) (P n a b)).rerun → x.asks ≤ m.asks + 3 → Spent v u x y l a → Spent u z y q k b → Spent v z m q (P n l k) (P n a b)

-- both sides at once, where each was asked before
abbrev pub SpentSides : Type 0
SpentSides =
    (v a b j : ValueView) (m x y z q : MarksView) (n : Handle) (l k c d : Kept) → 0 < (done (P n l k) (P n c d)).rerun → x.asks ≤ m.asks + 3 → Spent (left_view l k v) a (marks.left_of (outside x l k) (has_node k) x) y l c → Spent (right_view l k v) b (marks.right_of (outside x l k) (has_node k) x) z k d → j ≡ values.joined a b → q ≡ marks.joined y z → Spent v j m q (P n l k) (P n c d)

abbrev pub SpentBlock : Type 0
SpentBlock =
    (v u z : ValueView) (m x y : MarksView) (b : Reading) (t a : Kept) → 0 < (done t a).rerun → x.asks ≤ m.asks + 1 → u.looks ≤ v.looks + length b.reads → Spent u z x y t a → Spent v z m y (R b t) (R b a)

abbrev pub SpentAgain : Type 0
SpentAgain =
    (v u z : ValueView) (m y : MarksView) (b c : Reading) (t a : Kept) → unlike same_handle (reads_of b.reads) (reads_of c.reads) ≡ true → y.asks ≤ m.asks + 1 → u.looks ≤ v.looks + length b.reads → z.looks ≤ u.looks + (length (links_of a) + writes_in a) → Spent v z m y (R b t) (R c a)
