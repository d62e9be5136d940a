-- The worked programs.
use Rattle.std.specs.Prelude.{ℕ, suc, ◌+◌, pos, true, List, [], ◌∷◌, ◌++◌, codes, length, map, unwrap_or}
use Rattle.std.specs.Fmt.{decimal}
use Prim.Native.String.{String}
use Rattle.psac_ops.specs.declared.op.Op.{Op}
use Rattle.psac_ops.specs.declared.op.Op.TheVariants as o
use Rattle.psac_ops.specs.declared.plain.TextId.{TextId}
use Rattle.psac_syntax.specs.declared.program.Expr.{Expr}
use Rattle.psac_syntax.specs.declared.program.Expr.TheVariants as e
use Rattle.psac_syntax.specs.declared.program.Stmt.{Stmt}
use Rattle.psac_syntax.specs.declared.program.Stmt.TheVariants as s
use Rattle.psac_syntax.specs.declared.program.ReadItem.{ReadItem}
use Rattle.psac_syntax.specs.declared.program.Func.{Func}
use Rattle.psac_syntax.specs.declared.program.Program.{Program}
use Rattle.psac_model.specs.Fresh.{World, main_of}

-- A program: its text, the tree that the grammar reads in it, and what the series rule tells of it: the line of a refusal,
-- or nothing.
pub record Row : Type 0 where
  pub text : List ℕ
  pub tree : Program
  pub told : List ℕ

-- the bytes of these lines, each ended by a line feed
abbrev pub lines : List String → List ℕ
lines [] = []
lines (line ∷ more) = codes line ++ 10 ∷ lines more

abbrev pub words : List String → List (List ℕ)
words strings = map codes strings

abbrev pub parsed : List String → List (List ℕ) → ℕ → List Func → Program
parsed names texts blocks funcs = record { names = words names; texts = texts; funcs = funcs; blocks = blocks }

abbrev pub int : ℕ → Expr
int n = e.Int (pos n)

abbrev pub binary : Op → Expr → Expr → Expr
binary op left right = e.Apply op (left ∷ right ∷ [])

abbrev pub reads : ℕ → Expr → ReadItem
reads bound from = record { from = from; bound = bound }

abbrev pub func : ℕ → List ℕ → List ℕ → ℕ → List Stmt → Func
func name values dests line body = record { name = name; values = values; dests = dests; body = body; line = line }

-- the ids that these texts get, in their order
abbrev pub ids_from : ℕ → List (List ℕ) → List TextId
ids_from id [] = []
ids_from id (text ∷ more) = record { id = id; len = length text } ∷ ids_from (suc id) more

-- what is run of a program that has a main
abbrev pub world : Row → World
world row =
    let p = row.tree in
    record { program = p; texts = ids_from 0 p.texts; main = unwrap_or (main_of p) (func 0 [] [] 0 []) }

-- the text of a function that sums the cells from one row up to another
abbrev pub sum_by_halves : List ℕ
sum_by_halves =
    lines
    ("func sum(lo, hi; d) {" ∷
    "  if hi - lo == 1 {" ∷
    "    read cell(lo, 0) as x { write d = x; }" ∷
    "  } else {" ∷
    "    let mid = (lo + hi) / 2;" ∷
    "    new a;" ∷
    "    new b;" ∷
    "    par { call sum(lo, mid; a); } { call sum(mid, hi; b); }" ∷
    "    read a as x, b as y { write d = x + y; }" ∷
    "  }" ∷
    "}" ∷ [])

-- What stands from this line on in the function of this name, whose values and destination are the names behind it:
-- the values are halved at `mid`, behind which stand the names of two destinations, and what the halves give is read
-- as `x` and `y`.
abbrev pub by_halves : ℕ → ℕ → ℕ → ℕ → ℕ → ℕ → List Stmt
by_halves line name mid block x y =
    s.Let line mid (binary o.Div (binary o.Add (e.Name (name + 1)) (e.Name (name + 2))) (int 2)) ∷
    s.New (line + 1) (mid + 1) ∷
    s.New (line + 2) (mid + 2) ∷
    s.Par (line + 3)
    (s.Call (line + 3) name (e.Name (name + 1) ∷ e.Name mid ∷ []) ((mid + 1) ∷ []) ∷ [])
    (s.Call (line + 3) name (e.Name mid ∷ e.Name (name + 2) ∷ []) ((mid + 2) ∷ []) ∷ []) ∷
    s.Read (line + 4) block (reads x (e.Name (mid + 1)) ∷ reads y (e.Name (mid + 2)) ∷ [])
    (s.Write (line + 4) (name + 3) (binary o.Add (e.Name x) (e.Name y)) ∷ []) ∷ []

-- what the grammar reads in the text above, from the first name, line and block on
abbrev pub summing : ℕ → ℕ → ℕ → Func
summing name line block =
    func name ((name + 1) ∷ (name + 2) ∷ []) ((name + 3) ∷ []) line
    (s.If (line + 1) (binary o.Eq (binary o.Sub (e.Name (name + 2)) (e.Name (name + 1))) (int 1))
    (s.Read (line + 2) block (reads (name + 4) (e.Cell (e.Name (name + 1)) (int 0)) ∷ [])
    (s.Write (line + 2) (name + 3) (e.Name (name + 4)) ∷ []) ∷ [])
    (by_halves (line + 4) name (name + 5) (block + 1) (name + 4) (name + 8)) ∷ [])

abbrev pub sum : Row
sum =
    record {
      text =
          lines
          ("func main(; out) {" ∷
          "  call sum(0, rows; out);" ∷
          "}" ∷ [])
          ++ sum_by_halves;
      tree =
          parsed ("main" ∷ "out" ∷ "sum" ∷ "lo" ∷ "hi" ∷ "d" ∷ "x" ∷ "mid" ∷ "a" ∷ "b" ∷ "y" ∷ []) [] 2
          (func 0 [] (1 ∷ []) 1 (s.Call 2 2 (int 0 ∷ e.Rows ∷ []) (1 ∷ []) ∷ []) ∷
          summing 2 4 0 ∷ []);
      told = [];
    }

-- one cell is read, and in its block one line writes this value
abbrev pub of_one_cell : String → Expr → Row
of_one_cell line value =
    record {
      text = lines ("func main(; out) {" ∷ "  read cell(0, 0) as x {" ∷ line ∷ "  }" ∷ "}" ∷ []);
      tree =
          parsed ("main" ∷ "out" ∷ "x" ∷ []) [] 1
          (func 0 [] (1 ∷ []) 1
          (s.Read 2 0 (reads 2 (e.Cell (int 0) (int 0)) ∷ []) (s.Write 3 1 value ∷ []) ∷ []) ∷ []);
      told = [];
    }

abbrev pub double : Row
double = of_one_cell "    write out = x * 2;" (binary o.Mul (e.Name 2) (int 2))

abbrev pub made_again : Row
made_again =
    record {
      text =
          lines
          ("func main(; out) {" ∷
          "  new p;" ∷
          "  read cell(0, 0) as x {" ∷
          "    new q;" ∷
          "    write q = x / 10;" ∷
          "    write p = q;" ∷
          "  }" ∷
          "  read p as r {" ∷
          "    read r as y { write out = y; }" ∷
          "  }" ∷
          "}" ∷ []);
      tree =
          parsed ("main" ∷ "out" ∷ "p" ∷ "x" ∷ "q" ∷ "r" ∷ "y" ∷ []) [] 3
          (func 0 [] (1 ∷ []) 1
          (s.New 2 2 ∷
          s.Read 3 0 (reads 3 (e.Cell (int 0) (int 0)) ∷ [])
          (s.New 4 4 ∷ s.Write 5 4 (binary o.Div (e.Name 3) (int 10)) ∷ s.Write 6 2 (e.Name 4) ∷ []) ∷
          s.Read 8 1 (reads 5 (e.Name 2) ∷ [])
          (s.Read 9 2 (reads 6 (e.Name 5) ∷ []) (s.Write 9 1 (e.Name 6) ∷ []) ∷ []) ∷ []) ∷ []);
      told = [];
    }

abbrev pub nested : Row
nested =
    record {
      text =
          lines
          ("func main(; out) {" ∷
          "  read cell(0, 0) as x {" ∷
          "    read cell(0, 0) as y { write out = x + y; }" ∷
          "  }" ∷
          "}" ∷ []);
      tree =
          parsed ("main" ∷ "out" ∷ "x" ∷ "y" ∷ []) [] 2
          (func 0 [] (1 ∷ []) 1
          (s.Read 2 0 (reads 2 (e.Cell (int 0) (int 0)) ∷ [])
          (s.Read 3 1 (reads 3 (e.Cell (int 0) (int 0)) ∷ [])
          (s.Write 3 1 (binary o.Add (e.Name 2) (e.Name 3)) ∷ []) ∷ []) ∷ []) ∷ []);
      told = [];
    }

abbrev pub two_outputs : Row
two_outputs =
    record {
      text =
          lines
          ("func main(; out, other) {" ∷
          "  read cell(0, 0) as x {" ∷
          "    new q;" ∷
          "    write q = x;" ∷
          "    write out = q;" ∷
          "  }" ∷
          "  read cell(1, 0) as y { write other = y; }" ∷
          "}" ∷ []);
      tree =
          parsed ("main" ∷ "out" ∷ "other" ∷ "x" ∷ "q" ∷ "y" ∷ []) [] 2
          (func 0 [] (1 ∷ 2 ∷ []) 1
          (s.Read 2 0 (reads 3 (e.Cell (int 0) (int 0)) ∷ [])
          (s.New 3 4 ∷ s.Write 4 4 (e.Name 3) ∷ s.Write 5 1 (e.Name 4) ∷ []) ∷
          s.Read 7 1 (reads 5 (e.Cell (int 1) (int 0)) ∷ []) (s.Write 7 2 (e.Name 5) ∷ []) ∷ []) ∷ []);
      told = [];
    }

-- calls that go on up to the last one, two levels deeper at each; there this block stands
abbrev pub calls_until : List String → String → ℕ → List Stmt → ℕ → Row
calls_until block name blocks body last =
    record {
      text =
          lines ("func main(; out) { call f(0; out); }" ∷ "func f(n; d) {" ∷ [])
          ++ codes "  if n == "
          ++ decimal last
          ++ lines (" {" ∷ [])
          ++ lines block
          ++ lines ("  } else { call f(n + 1; d); }" ∷ "}" ∷ []);
      tree =
          parsed ("main" ∷ "out" ∷ "f" ∷ "n" ∷ "d" ∷ name ∷ []) [] blocks
          (func 0 [] (1 ∷ []) 1 (s.Call 1 2 (int 0 ∷ []) (1 ∷ []) ∷ []) ∷
          func 2 (3 ∷ []) (4 ∷ []) 2
          (s.If 3 (binary o.Eq (e.Name 3) (int last)) body
          (s.Call (length block + 4) 2 (binary o.Add (e.Name 3) (int 1) ∷ []) (4 ∷ []) ∷ []) ∷ []) ∷ []);
      told = [];
    }

abbrev pub deep_until : ℕ → Row
deep_until =
    calls_until ("    let k = n;" ∷ "    write d = k;" ∷ []) "k" 0
    (s.Let 4 5 (e.Name 3) ∷ s.Write 5 4 (e.Name 5) ∷ [])

abbrev pub deep_read_until : ℕ → Row
deep_read_until =
    calls_until ("    read cell(0, 0) as x { write d = x; }" ∷ []) "x" 1
    (s.Read 4 0 (reads 5 (e.Cell (int 0) (int 0)) ∷ []) (s.Write 4 4 (e.Name 5) ∷ []) ∷ [])

abbrev pub deep : Row
deep = deep_until 148

abbrev pub both_fault : Row
both_fault =
    record {
      text =
          lines
          ("func main(; a, b) {" ∷
          "  par {" ∷
          "    write a = 1 / 0;" ∷
          "  } {" ∷
          "    write b = nil + 1;" ∷
          "  }" ∷
          "}" ∷ []);
      tree =
          parsed ("main" ∷ "a" ∷ "b" ∷ []) [] 0
          (func 0 [] (1 ∷ 2 ∷ []) 1
          (s.Par 2
          (s.Write 3 1 (binary o.Div (int 1) (int 0)) ∷ [])
          (s.Write 5 2 (binary o.Add e.Nil (int 1)) ∷ []) ∷ []) ∷ []);
      told = [];
    }

abbrev pub empty : Row
empty =
    record {
      text = lines ("func main(;) { }" ∷ []);
      tree = parsed ("main" ∷ []) [] 0 (func 0 [] [] 1 [] ∷ []);
      told = [];
    }

abbrev pub reads_across : Row
reads_across =
    record {
      text =
          lines
          ("func main(; a, b) {" ∷
          "  par {" ∷
          "    write a = 1;" ∷
          "  } {" ∷
          "    read a as x { write b = x; }" ∷
          "  }" ∷
          "}" ∷ []);
      tree =
          parsed ("main" ∷ "a" ∷ "b" ∷ "x" ∷ []) [] 1
          (func 0 [] (1 ∷ 2 ∷ []) 1
          (s.Par 2
          (s.Write 3 1 (int 1) ∷ [])
          (s.Read 5 0 (reads 3 (e.Name 1) ∷ []) (s.Write 5 2 (e.Name 3) ∷ []) ∷ []) ∷ []) ∷ []);
      told = codes "program line 5 read before write\n";
    }

abbrev pub branches_differ : Row
branches_differ =
    record {
      text =
          lines
          ("func main(; a, b) {" ∷
          "  if 1 == 1 { write a = 1; } else { write b = 2; }" ∷
          "}" ∷ []);
      tree =
          parsed ("main" ∷ "a" ∷ "b" ∷ []) [] 0
          (func 0 [] (1 ∷ 2 ∷ []) 1
          (s.If 2 (binary o.Eq (int 1) (int 1)) (s.Write 2 1 (int 1) ∷ []) (s.Write 2 2 (int 2) ∷ []) ∷ []) ∷ []);
      told = codes "program line 2 branches differ\n";
    }

abbrev pub both_write : Row
both_write =
    record {
      text =
          lines
          ("func main(; a) {" ∷
          "  par { write a = 1; } { write a = 2; }" ∷
          "}" ∷ []);
      tree =
          parsed ("main" ∷ "a" ∷ []) [] 0
          (func 0 [] (1 ∷ []) 1 (s.Par 2 (s.Write 2 1 (int 1) ∷ []) (s.Write 2 1 (int 2) ∷ []) ∷ []) ∷ []);
      told = codes "program line 2 written in both sides\n";
    }

abbrev pub quoted_cell : Row
quoted_cell =
    record {
      text =
          lines
          ("func main(; out) {" ∷
          "  read cell(0, 1) as x { write out = x; }" ∷
          "}" ∷ []);
      tree =
          parsed ("main" ∷ "out" ∷ "x" ∷ []) [] 1
          (func 0 [] (1 ∷ []) 1
          (s.Read 2 0 (reads 2 (e.Cell (int 0) (int 1)) ∷ []) (s.Write 2 1 (e.Name 2) ∷ []) ∷ []) ∷ []);
      told = [];
    }

abbrev pub add_one : Row
add_one = of_one_cell "    write out = x + 1;" (binary o.Add (e.Name 2) (int 1))

abbrev pub sales : Row
sales =
    record {
      text =
          lines
          ("func main(; total) {" ∷
          "  if rows == 0 {" ∷
          "    write total = 0;" ∷
          "  } else {" ∷
          "    call add(0, rows; total);" ∷
          "  }" ∷
          "}" ∷
          "func add(lo, hi; d) {" ∷
          "  if hi - lo == 1 {" ∷
          "    read cell(lo, 0) as place, cell(lo, 1) as amount {" ∷
          "      if place == \"north\" { write d = amount; } else { write d = 0; }" ∷
          "    }" ∷
          "  } else {" ∷
          "    let mid = (lo + hi) / 2;" ∷
          "    new a;" ∷
          "    new b;" ∷
          "    par { call add(lo, mid; a); } { call add(mid, hi; b); }" ∷
          "    read a as x, b as y { write d = x + y; }" ∷
          "  }" ∷
          "}" ∷ []);
      tree =
          parsed ("main" ∷ "total" ∷ "add" ∷ "lo" ∷ "hi" ∷ "d" ∷ "place" ∷ "amount" ∷ "mid" ∷ "a" ∷ "b" ∷ "x" ∷ "y" ∷ [])
          (words ("north" ∷ [])) 2
          (func 0 [] (1 ∷ []) 1
          (s.If 2 (binary o.Eq e.Rows (int 0))
          (s.Write 3 1 (int 0) ∷ [])
          (s.Call 5 2 (int 0 ∷ e.Rows ∷ []) (1 ∷ []) ∷ []) ∷ []) ∷
          func 2 (3 ∷ 4 ∷ []) (5 ∷ []) 8
          (s.If 9 (binary o.Eq (binary o.Sub (e.Name 4) (e.Name 3)) (int 1))
          (s.Read 10 0 (reads 6 (e.Cell (e.Name 3) (int 0)) ∷ reads 7 (e.Cell (e.Name 3) (int 1)) ∷ [])
          (s.If 11 (binary o.Eq (e.Name 6) (e.Text 0))
          (s.Write 11 5 (e.Name 7) ∷ [])
          (s.Write 11 5 (int 0) ∷ []) ∷ []) ∷ [])
          (by_halves 14 2 8 1 11 12) ∷ []) ∷ []);
      told = [];
    }

abbrev pub pair_of : Row
pair_of =
    record {
      text =
          lines
          ("func main(; out) {" ∷
          "  new a;" ∷
          "  write a = 5;" ∷
          "  write out = pair(a, cell(0, 0));" ∷
          "}" ∷ []);
      tree =
          parsed ("main" ∷ "out" ∷ "a" ∷ []) [] 0
          (func 0 [] (1 ∷ []) 1
          (s.New 2 2 ∷ s.Write 3 2 (int 5) ∷ s.Write 4 1 (binary o.Pair (e.Name 2) (e.Cell (int 0) (int 0))) ∷ []) ∷ []);
      told = [];
    }

abbrev pub two_quotients : Row
two_quotients =
    record {
      text =
          lines
          ("func main(; a, b) {" ∷
          "  par {" ∷
          "    read cell(0, 0) as x { write a = 10 / x; }" ∷
          "  } {" ∷
          "    read cell(1, 0) as y { write b = 10 / y; }" ∷
          "  }" ∷
          "}" ∷ []);
      tree =
          parsed ("main" ∷ "a" ∷ "b" ∷ "x" ∷ "y" ∷ []) [] 2
          (func 0 [] (1 ∷ 2 ∷ []) 1
          (s.Par 2
          (s.Read 3 0 (reads 3 (e.Cell (int 0) (int 0)) ∷ [])
          (s.Write 3 1 (binary o.Div (int 10) (e.Name 3)) ∷ []) ∷ [])
          (s.Read 5 1 (reads 4 (e.Cell (int 1) (int 0)) ∷ [])
          (s.Write 5 2 (binary o.Div (int 10) (e.Name 4)) ∷ []) ∷ []) ∷ []) ∷ []);
      told = [];
    }

abbrev pub deep_read : Row
deep_read = deep_read_until 148

abbrev pub many_pars : Row
many_pars =
    record {
      text =
          lines
          ("func main(; out) { call f(0; out); }" ∷
          "func f(n; d) {" ∷
          "  if n == 70 { write d = n; } else {" ∷
          "    new a;" ∷
          "    par { call f(n + 1; a); } { }" ∷
          "    read a as x { write d = x; }" ∷
          "  }" ∷
          "}" ∷ []);
      tree =
          parsed ("main" ∷ "out" ∷ "f" ∷ "n" ∷ "d" ∷ "a" ∷ "x" ∷ []) [] 1
          (func 0 [] (1 ∷ []) 1 (s.Call 1 2 (int 0 ∷ []) (1 ∷ []) ∷ []) ∷
          func 2 (3 ∷ []) (4 ∷ []) 2
          (s.If 3 (binary o.Eq (e.Name 3) (int 70))
          (s.Write 3 4 (e.Name 3) ∷ [])
          (s.New 4 5 ∷
          s.Par 5 (s.Call 5 2 (binary o.Add (e.Name 3) (int 1) ∷ []) (5 ∷ []) ∷ []) [] ∷
          s.Read 6 0 (reads 6 (e.Name 5) ∷ []) (s.Write 6 4 (e.Name 6) ∷ []) ∷ []) ∷ []) ∷ []);
      told = [];
    }

abbrev pub present_sum : Row
present_sum =
    record {
      text =
          lines
          ("func main(; out) {" ∷
          "  read rows() as n {" ∷
          "    if n == 0 { write out = 0; } else { call sum(0, n; out); }" ∷
          "  }" ∷
          "}" ∷ [])
          ++ sum_by_halves;
      tree =
          parsed ("main" ∷ "out" ∷ "n" ∷ "sum" ∷ "lo" ∷ "hi" ∷ "d" ∷ "x" ∷ "mid" ∷ "a" ∷ "b" ∷ "y" ∷ []) [] 3
          (func 0 [] (1 ∷ []) 1
          (s.Read 2 0 (reads 2 e.RowCount ∷ [])
          (s.If 3 (binary o.Eq (e.Name 2) (int 0))
          (s.Write 3 1 (int 0) ∷ [])
          (s.Call 3 3 (int 0 ∷ e.Name 2 ∷ []) (1 ∷ []) ∷ []) ∷ []) ∷ []) ∷
          summing 3 6 1 ∷ []);
      told = [];
    }

abbrev pub too_deep : Row
too_deep = deep_until 149

abbrev pub too_deep_read : Row
too_deep_read = deep_read_until 149

abbrev pub unknown_name : Row
unknown_name =
    record {
      text = lines ("func main(; a) { write a = b; }" ∷ []);
      tree = parsed ("main" ∷ "a" ∷ "b" ∷ []) [] 0 (func 0 [] (1 ∷ []) 1 (s.Write 1 1 (e.Name 2) ∷ []) ∷ []);
      told = codes "program line 1 unknown name\n";
    }

abbrev pub rebound_parameter : Row
rebound_parameter =
    record {
      text = lines ("func main(; a) { let a = 1; write a = 1; }" ∷ []);
      tree = parsed ("main" ∷ "a" ∷ []) [] 0 (func 0 [] (1 ∷ []) 1 (s.Let 1 1 (int 1) ∷ s.Write 1 1 (int 1) ∷ []) ∷ []);
      told = codes "program line 1 rebound\n";
    }

abbrev pub written_again : Row
written_again =
    record {
      text = lines ("func main(; a) { write a = 1; write a = 2; }" ∷ []);
      tree =
          parsed ("main" ∷ "a" ∷ []) [] 0
          (func 0 [] (1 ∷ []) 1 (s.Write 1 1 (int 1) ∷ s.Write 1 1 (int 2) ∷ []) ∷ []);
      told = codes "program line 1 written twice\n";
    }

abbrev pub not_written : Row
not_written =
    record {
      text = lines ("func main(; a) { }" ∷ []);
      tree = parsed ("main" ∷ "a" ∷ []) [] 0 (func 0 [] (1 ∷ []) 1 [] ∷ []);
      told = codes "program line 1 not written\n";
    }

abbrev pub unknown_function : Row
unknown_function =
    record {
      text = lines ("func main(; a) { call f(; a); }" ∷ []);
      tree = parsed ("main" ∷ "a" ∷ "f" ∷ []) [] 0 (func 0 [] (1 ∷ []) 1 (s.Call 1 2 [] (1 ∷ []) ∷ []) ∷ []);
      told = codes "program line 1 unknown function\n";
    }

abbrev pub too_many_values : Row
too_many_values =
    record {
      text = lines ("func main(; a) { call f(1; a); } func f(; d) { write d = 1; }" ∷ []);
      tree =
          parsed ("main" ∷ "a" ∷ "f" ∷ "d" ∷ []) [] 0
          (func 0 [] (1 ∷ []) 1 (s.Call 1 2 (int 1 ∷ []) (1 ∷ []) ∷ []) ∷
          func 2 [] (3 ∷ []) 1 (s.Write 1 3 (int 1) ∷ []) ∷ []);
      told = codes "program line 1 arity\n";
    }

abbrev pub no_main : Row
no_main =
    record {
      text = lines ("func f(; d) { write d = 1; }" ∷ []);
      tree = parsed ("f" ∷ "d" ∷ []) [] 0 (func 0 [] (1 ∷ []) 1 (s.Write 1 1 (int 1) ∷ []) ∷ []);
      told = codes "program line 1 no main\n";
    }

abbrev pub main_with_values : Row
main_with_values =
    record {
      text = lines ("func main(v; a) { }" ∷ []);
      tree = parsed ("main" ∷ "v" ∷ "a" ∷ []) [] 0 (func 0 (1 ∷ []) (2 ∷ []) 1 [] ∷ []);
      told = codes "program line 1 no main\n";
    }

abbrev pub write_of_itself : Row
write_of_itself =
    record {
      text = lines ("func main(; a) { write a = a; }" ∷ []);
      tree = parsed ("main" ∷ "a" ∷ []) [] 0 (func 0 [] (1 ∷ []) 1 (s.Write 1 1 (e.Name 1) ∷ []) ∷ []);
      told = codes "program line 1 wrong sort\n";
    }

abbrev pub new_not_written : Row
new_not_written =
    record {
      text = lines ("func main(; a) { if 1 == 1 { new b; write a = 1; } else { write a = 2; } }" ∷ []);
      tree =
          parsed ("main" ∷ "a" ∷ "b" ∷ []) [] 0
          (func 0 [] (1 ∷ []) 1
          (s.If 1 (binary o.Eq (int 1) (int 1))
          (s.New 1 2 ∷ s.Write 1 1 (int 1) ∷ [])
          (s.Write 1 1 (int 2) ∷ []) ∷ []) ∷ []);
      told = codes "program line 1 not written\n";
    }

abbrev pub one_name_for_two_reads : Row
one_name_for_two_reads =
    record {
      text = lines ("func main(; a) { read cell(0, 0) as x, cell(0, 0) as x { write a = x; } }" ∷ []);
      tree =
          parsed ("main" ∷ "a" ∷ "x" ∷ []) [] 1
          (func 0 [] (1 ∷ []) 1
          (s.Read 1 0 (reads 2 (e.Cell (int 0) (int 0)) ∷ reads 2 (e.Cell (int 0) (int 0)) ∷ [])
          (s.Write 1 1 (e.Name 2) ∷ []) ∷ []) ∷ []);
      told = codes "program line 1 rebound\n";
    }

abbrev pub one_destination_twice : Row
one_destination_twice =
    record {
      text = lines ("func main(; a) { call f(; a, a); } func f(; d, e) { write d = 1; write e = 1; }" ∷ []);
      tree =
          parsed ("main" ∷ "a" ∷ "f" ∷ "d" ∷ "e" ∷ []) [] 0
          (func 0 [] (1 ∷ []) 1 (s.Call 1 2 [] (1 ∷ 1 ∷ []) ∷ []) ∷
          func 2 [] (3 ∷ 4 ∷ []) 1 (s.Write 1 3 (int 1) ∷ s.Write 1 4 (int 1) ∷ []) ∷ []);
      told = codes "program line 1 written twice\n";
    }

abbrev pub right_takes_from_left : Row
right_takes_from_left =
    record {
      text = lines ("func main(; a) { par { write a = 1; } { new b; write b = a; } }" ∷ []);
      tree =
          parsed ("main" ∷ "a" ∷ "b" ∷ []) [] 0
          (func 0 [] (1 ∷ []) 1
          (s.Par 1 (s.Write 1 1 (int 1) ∷ []) (s.New 1 2 ∷ s.Write 1 2 (e.Name 1) ∷ []) ∷ []) ∷ []);
      told = codes "program line 1 wrong sort\n";
    }

abbrev pub output_read_first : Row
output_read_first =
    record {
      text = lines ("func main(; a) { read a as x { write a = x; } }" ∷ []);
      tree =
          parsed ("main" ∷ "a" ∷ "x" ∷ []) [] 1
          (func 0 [] (1 ∷ []) 1 (s.Read 1 0 (reads 2 (e.Name 1) ∷ []) (s.Write 1 1 (e.Name 2) ∷ []) ∷ []) ∷ []);
      told = codes "program line 1 read before write\n";
    }

abbrev pub new_read_first : Row
new_read_first =
    record {
      text = lines ("func main(; a) { new b; read b as x { write a = x; } }" ∷ []);
      tree =
          parsed ("main" ∷ "a" ∷ "b" ∷ "x" ∷ []) [] 1
          (func 0 [] (1 ∷ []) 1
          (s.New 1 2 ∷ s.Read 1 0 (reads 3 (e.Name 2) ∷ []) (s.Write 1 1 (e.Name 3) ∷ []) ∷ []) ∷ []);
      told = codes "program line 1 read before write\n";
    }

abbrev pub let_of_itself : Row
let_of_itself =
    record {
      text = lines ("func main(; a) { let x = x; write a = x; }" ∷ []);
      tree =
          parsed ("main" ∷ "a" ∷ "x" ∷ []) [] 0
          (func 0 [] (1 ∷ []) 1 (s.Let 1 2 (e.Name 2) ∷ s.Write 1 1 (e.Name 2) ∷ []) ∷ []);
      told = codes "program line 1 unknown name\n";
    }

abbrev pub unknown_destination : Row
unknown_destination =
    record {
      text = lines ("func main(; a) { call main(c; a); }" ∷ []);
      tree =
          parsed ("main" ∷ "a" ∷ "c" ∷ []) [] 0
          (func 0 [] (1 ∷ []) 1 (s.Call 1 0 (e.Name 2 ∷ []) (1 ∷ []) ∷ []) ∷ []);
      told = codes "program line 1 unknown name\n";
    }

abbrev pub two_functions_of_one_name : Row
two_functions_of_one_name =
    record {
      text = lines ("func main(; a) { write a = 1; } func main(; a) { }" ∷ []);
      tree =
          parsed ("main" ∷ "a" ∷ []) [] 0
          (func 0 [] (1 ∷ []) 1 (s.Write 1 1 (int 1) ∷ []) ∷
          func 0 [] (1 ∷ []) 1 [] ∷ []);
      told = codes "program line 1 rebound\n";
    }

abbrev pub two_parameters_of_one_name : Row
two_parameters_of_one_name =
    record {
      text = lines ("func main(; a) { write a = 1; } func f(x, x; d) { }" ∷ []);
      tree =
          parsed ("main" ∷ "a" ∷ "f" ∷ "x" ∷ "d" ∷ []) [] 0
          (func 0 [] (1 ∷ []) 1 (s.Write 1 1 (int 1) ∷ []) ∷
          func 2 (3 ∷ 3 ∷ []) (4 ∷ []) 1 [] ∷ []);
      told = codes "program line 1 rebound\n";
    }

abbrev pub branches_in_two_orders : Row
branches_in_two_orders =
    record {
      text = lines ("func main(; a) { new b; if true { write b = 1; write a = 1; } else { write a = 1; write b = 2; } read b as x { } }" ∷ []);
      tree =
          parsed ("main" ∷ "a" ∷ "b" ∷ "x" ∷ []) [] 1
          (func 0 [] (1 ∷ []) 1
          (s.New 1 2 ∷
          s.If 1 (e.Bool true)
          (s.Write 1 2 (int 1) ∷ s.Write 1 1 (int 1) ∷ [])
          (s.Write 1 1 (int 1) ∷ s.Write 1 2 (int 2) ∷ []) ∷
          s.Read 1 0 (reads 3 (e.Name 2) ∷ []) [] ∷ []) ∷ []);
      told = [];
    }

abbrev pub write_of_a_value : Row
write_of_a_value =
    record {
      text = lines ("func main(; a) { let x = 1; write x = 2; }" ∷ []);
      tree =
          parsed ("main" ∷ "a" ∷ "x" ∷ []) [] 0
          (func 0 [] (1 ∷ []) 1 (s.Let 1 2 (int 1) ∷ s.Write 1 2 (int 2) ∷ []) ∷ []);
      told = codes "program line 1 wrong sort\n";
    }

abbrev pub names_leave_scope : Row
names_leave_scope =
    record {
      text = lines ("func main(; a) { if true { let x = 1; write a = x; } else { let x = 2; write a = x; } let x = 3; }" ∷ []);
      tree =
          parsed ("main" ∷ "a" ∷ "x" ∷ []) [] 0
          (func 0 [] (1 ∷ []) 1
          (s.If 1 (e.Bool true)
          (s.Let 1 2 (int 1) ∷ s.Write 1 1 (e.Name 2) ∷ [])
          (s.Let 1 2 (int 2) ∷ s.Write 1 1 (e.Name 2) ∷ []) ∷
          s.Let 1 2 (int 3) ∷ []) ∷ []);
      told = [];
    }

-- programs that follow the rule, and whose runs come to an end over an input that suits them
abbrev pub that_end : List Row
that_end =
    sum ∷ double ∷ made_again ∷ nested ∷ two_outputs ∷ empty ∷ quoted_cell ∷ add_one ∷ sales ∷ pair_of ∷
    many_pars ∷ present_sum ∷ []

-- the others that follow the rule
abbrev pub others_in_series : List Row
others_in_series =
    deep ∷ deep_read ∷ too_deep ∷ too_deep_read ∷ both_fault ∷ two_quotients ∷ branches_in_two_orders ∷
    names_leave_scope ∷ []

-- programs that the rule refuses for a name
abbrev pub with_wrong_names : List Row
with_wrong_names =
    unknown_name ∷ unknown_destination ∷ unknown_function ∷ let_of_itself ∷ rebound_parameter ∷
    one_name_for_two_reads ∷ []

-- programs that the rule refuses for a header
abbrev pub with_wrong_headers : List Row
with_wrong_headers =
    no_main ∷ main_with_values ∷ two_functions_of_one_name ∷ two_parameters_of_one_name ∷ too_many_values ∷ []

-- programs that the rule refuses for a write
abbrev pub with_wrong_writes : List Row
with_wrong_writes =
    written_again ∷ not_written ∷ new_not_written ∷ both_write ∷ branches_differ ∷ one_destination_twice ∷ []

-- programs that the rule refuses for what is used where it can't be
abbrev pub with_wrong_places : List Row
with_wrong_places =
    reads_across ∷ output_read_first ∷ new_read_first ∷ right_takes_from_left ∷ write_of_itself ∷
    write_of_a_value ∷ []

-- every program of this file
abbrev pub all_programs : List Row
all_programs =
    that_end ++ others_in_series
    ++ with_wrong_names ++ with_wrong_headers ++ with_wrong_writes ++ with_wrong_places
