-- What a run of a whole program that was cut short drew is at most what the fresh run has: where it drew more than a cap, that is over the cap.
use Rattle.std.proofs.Common.{◌≡◌, ◌≤◌, ◌<◌, ℕ, Bool, true, nat_lt, List, [], ◌++◌, map, All, Contains, length, refl, arith, zero-lt-suc}
use Rattle.std.proofs.lemmas.List.Elements.{Contains-append_left, Contains-append_right}
use Rattle.std.proofs.lemmas.Bool.Decides.{nat_tests}
use Rattle.psac_inputs.specs.Grid.{Grid}
use Rattle.psac_model.specs.declared.ends.Size.{Size}
use Rattle.psac_model.specs.declared.ends.Caps.{Caps}
use Rattle.psac_model.specs.declared.ends.CapKind.{CapKind}
use Rattle.psac_model.specs.declared.ends.CapKind.TheVariants.{Nodes, Mods, Links}
use Rattle.psac_model.specs.Names.{Name, Env}
use Rattle.psac_model.specs.Expression.{Setting}
use Rattle.psac_model.specs.Tree.{size_of}
use Rattle.psac_model.specs.Fresh.{World, fresh, setting, levels, main_env, grid_heap, nodes_of, over, when}
use Rattle.psac_naming.specs.Alike.{Envs, Settings}
use Rattle.psac_naming.specs.Naming.{Naming, IsNamed, IsOneToOne, IsSameTest, Unused}
use Rattle.psac_naming.proofs.Namings.{named_left, named_right, tests_names}
use Rattle.psac_naming.proofs.Trees.{envs_more, reads_more}
use Rattle.psac_laws.specs.Standing.{series_of, params}
use Rattle.psac_laws.proofs.Good.{wider_same}
use Rattle.psac_laws.proofs.Rules.{leaves}
use Rattle.psac_laws.proofs.Opening.{IsChecked, opening_safe}
use Rattle.psac_traced.specs.Rec.{Rec, HeapOf}
use Rattle.psac_traced.specs.Renamed.{Heaps}
use Rattle.psac_traced.specs.Places.{names, Makes, IsApart, HasName}
use Rattle.psac_traced.proofs.Places.{names_more, only_one}
use Rattle.psac_cut.specs.CutShort.{cut_short}
use Rattle.psac_cut.specs.Within.{drew, IsWithin, count_of, cap_of}
use Rattle.psac_cut.proofs.Within.{cut_bound}

-- main's own modifiables and those of the inputs, over any names, with the names that they stand for
module _ {M : Type 0} (w : World) (g : Grid) (rows : length g.cells ≡ g.room) (even : All (λ row. length row ≡ g.cols) g.cells) (checked : IsChecked w) (u : Setting M) (same : IsSameTest u.same) (base : Naming M) (one : IsOneToOne base) (inputs : Settings (IsNamed base) u (setting w.texts g)) (un : Unused [] base) (env : Env M) (envs : Envs (IsNamed base) env (main_env 0 w.main.dests [])) (heap : HeapOf M) (heaps : Heaps (IsNamed base) heap (grid_heap g)) where
  settings_more : (more : Naming M) → Settings (IsNamed (base ++ more)) u (setting w.texts g)
  settings_more more =
      record {
        opened = inputs.opened;
        room = inputs.room;
        cols = inputs.cols;
        texts = inputs.texts;
        cells = λ r c h k. named_left base more (u.cell r c) ((setting w.texts g).cell r c) (inputs.cells r c h k);
        row_count = named_left base more u.row_count (setting w.texts g).row_count inputs.row_count;
      }

  pub fresh_bound : (r : Rec M) (n : ℕ) → IsApart r → ((m : M) → HasName base m → Makes r m → ⊥) → cut_short u w.program.funcs levels w.main.body env heap r n → IsWithin (drew r n) (size_of (fresh w g).tree)
  unfolding fresh
  fresh_bound r n apart new c =
      let more = names [] r in
      let all : Naming M = base ++ more in
      let T : M → Name → Type 0 = IsNamed all in
      let single : IsOneToOne all = names_more base [] r one un apart (λ m k i j. new m (k, i) j) in
      let wide : (m : M) (k : Name) → IsNamed base m k → T m k = named_left base more in
      let start = leaves (map series_of w.main.body) (params w.main) [] checked.start.body in
      cut_bound T (only_one all single) u (setting w.texts g) refl (settings_more more) (tests_names all u.same (setting w.texts g).same single same refl) w.program.funcs checked.each levels w.main.body (params w.main) start.end env (main_env 0 w.main.dests []) heap (grid_heap g) (grid_heap g) [] r n start.meets
      (opening_safe w g rows even checked) (wider_same (grid_heap g))
      (envs_more (IsNamed base) T wide env (main_env 0 w.main.dests []) envs)
      (reads_more (IsNamed base) T wide heap (grid_heap g) heaps)
      (named_right base more) c

here_when : (b : Bool) (c : CapKind) → b ≡ true → Contains (when b c) c
here_when b c e = rw e (0, zero-lt-suc 0, refl)

abbrev nodes_over : Size → Caps → List CapKind
nodes_over z caps = when (nat_lt caps.nodes (nodes_of z)) Nodes

abbrev mods_over : Size → Caps → List CapKind
mods_over z caps = when (nat_lt caps.mods z.mods) Mods

abbrev links_over : Size → Caps → List CapKind
links_over z caps = when (nat_lt caps.links z.links) Links

-- what a size has more of than its cap is on the list
pub over_has : (c : CapKind) (z : Size) (caps : Caps) → cap_of c caps < count_of c z → Contains (over z caps) c
over_has Nodes z caps h =
    let t : nat_lt caps.nodes (nodes_of z) ≡ true = grind (arith, nat_tests) in
    Contains-append_left (nodes_over z caps ++ mods_over z caps) (links_over z caps) Nodes (Contains-append_left (nodes_over z caps) (mods_over z caps) Nodes (here_when (nat_lt caps.nodes (nodes_of z)) Nodes t))
over_has Mods z caps h =
    let t : nat_lt caps.mods z.mods ≡ true = grind (arith, nat_tests) in
    Contains-append_left (nodes_over z caps ++ mods_over z caps) (links_over z caps) Mods (Contains-append_right (nodes_over z caps) (mods_over z caps) Mods (here_when (nat_lt caps.mods z.mods) Mods t))
over_has Links z caps h =
    let t : nat_lt caps.links z.links ≡ true = grind (arith, nat_tests) in
    Contains-append_right (nodes_over z caps ++ mods_over z caps) (links_over z caps) Links (here_when (nat_lt caps.links z.links) Links t)

count_within : (c : CapKind) (some whole : Size) → IsWithin some whole → count_of c some ≤ count_of c whole
count_within Nodes some whole h = h.nodes
count_within Mods some whole h = h.mods
count_within Links some whole h = h.links

-- where a part of a run drew more than a cap, the whole run is over it
pub drew_over : (c : CapKind) (some whole : Size) (caps : Caps) → IsWithin some whole → cap_of c caps < count_of c some → Contains (over whole caps) c
drew_over c some whole caps h more = let most = count_within c some whole h in over_has c whole caps (omega arith)
