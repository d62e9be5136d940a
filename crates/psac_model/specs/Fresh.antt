-- The whole program, run once on the present inputs.
use Rattle.std.specs.Prelude.{ℕ, pos, ◌+◌, List, [], ◌∷◌, ◌++◌, Option, Some, None, Bool, false, nat_lt, if◌then◌else◌, slice_get, find, option_map, codes}
use Rattle.std.specs.Str.{bytes_eq}
use Rattle.psac_ops.specs.declared.plain.Plain.{Plain}
use Rattle.psac_ops.specs.declared.plain.TextId.{TextId}
use Rattle.psac_ops.specs.Value.{ref, int}
use Rattle.psac_ops.specs.Named.{cell_value}
use Rattle.psac_syntax.specs.declared.program.Func.{Func}
use Rattle.psac_syntax.specs.declared.program.Program.{Program}
use Rattle.psac_inputs.specs.Grid.{Grid}
use Rattle.psac_model.specs.declared.ends.FaultKind.{FaultKind}
use Rattle.psac_model.specs.declared.ends.End.{End}
use Rattle.psac_model.specs.declared.ends.End.TheVariants.{Done, Stop}
use Rattle.psac_model.specs.declared.ends.Size.{Size}
use Rattle.psac_model.specs.declared.ends.Caps.{Caps}
use Rattle.psac_model.specs.declared.ends.CapKind.{CapKind}
use Rattle.psac_model.specs.declared.ends.CapKind.TheVariants.{Nodes, Mods, Links}
use Rattle.psac_model.specs.Names.{Name, Input, Out, Rows, Env, bind, Heap, same_name}
use Rattle.psac_model.specs.Expression.{Setting}
use Rattle.psac_model.specs.Tree.{Tree, size_of}
use Rattle.psac_model.specs.Run.{run, Ran, by_path}

-- the cells of a row from a column on, with their names
abbrev pub row_heap : ℕ → ℕ → List Plain → Heap
row_heap r c [] = []
row_heap r c (v ∷ more) = (Input r c, cell_value v) ∷ row_heap r (c + 1) more

abbrev pub cells_heap : ℕ → List (List Plain) → Heap
cells_heap r [] = []
cells_heap r (row ∷ more) = row_heap r 0 row ++ cells_heap (r + 1) more

-- the inputs: the present number of rows, and each cell below the room
abbrev pub grid_heap : Grid → Heap
grid_heap g = (Rows, int (pos g.rows)) ∷ cells_heap 0 g.cells

-- main's destinations, each a reference to its output
abbrev pub main_env : ℕ → List ℕ → Env Name → Env Name
main_env i [] env = env
main_env i (d ∷ ds) env = main_env (i + 1) ds (bind d (ref (Out i)) env)

-- at most so many levels are gone into
abbrev pub levels : ℕ
levels = 300

-- a program with the ids of its texts, and its main
pub record World : Type 0 where
  pub program : Program
  pub texts : List TextId
  pub main : Func

abbrev pub is_word : List ℕ → Option (List ℕ) → Bool
is_word bytes None = false
is_word bytes (Some word) = bytes_eq bytes word

abbrev pub is_named_main : Program → Func → Bool
is_named_main p f = is_word (codes "main") (slice_get p.names f.name)

-- the first function of that name
abbrev pub main_of : Program → Option Func
main_of p = find (is_named_main p) p.funcs

-- the program with the ids of its texts, where it has a main
abbrev pub world_of : Program → List TextId → Option World
world_of p texts = option_map (λ f. record { program = p; texts = texts; main = f }) (main_of p)

abbrev pub setting : List TextId → Grid → Setting Name
setting texts g =
    record { opened = g.opened; room = g.room; cols = g.cols; texts = texts; cell = Input; row_count = Rows; same = same_name }

unfoldable pub fresh : World → Grid → Ran Name Heap
fresh w g = run by_path (setting w.texts g) w.program.funcs levels w.main.body (main_env 0 w.main.dests []) (grid_heap g) []

abbrev pub nodes_of : Size → ℕ
nodes_of z = z.s + z.p + z.r

abbrev pub when : {A : Type 0} → Bool → A → List A
when b x = if b then x ∷ [] else []

-- what a size has more of than its cap
abbrev pub over : Size → Caps → List CapKind
over z caps = when (nat_lt caps.nodes (nodes_of z)) Nodes ++ when (nat_lt caps.mods z.mods) Mods ++ when (nat_lt caps.links z.links) Links

pub data Outcome : Type 0 where
  Full : (which : List CapKind) → Outcome
  Fault : (kind : FaultKind) (line : ℕ) → Outcome
  Good : (tree : Tree Name) (heap : Heap) → Outcome

abbrev pub ended : End → Tree Name → Heap → Outcome
ended Done tree heap = Good tree heap
ended (Stop k line) tree heap = Fault k line

abbrev pub judged : List CapKind → Ran Name Heap → Outcome
judged [] r = ended r.end r.tree r.heap
judged (k ∷ ks) r = Full (k ∷ ks)

-- a run that is too large is Full, also where it stops
abbrev pub outcome_of : Caps → Ran Name Heap → Outcome
outcome_of caps r = judged (over (size_of r.tree) caps) r

abbrev pub outcome : World → Caps → Grid → Outcome
outcome w caps g = outcome_of caps (fresh w g)
