-- A record over distinct modifiables is by renaming what the run by paths gives.
use Rattle.std.proofs.Common.{◌≡◌, ℕ, List, ◌++◌, ap}
use Rattle.psac_syntax.specs.declared.program.Stmt.{Stmt}
use Rattle.psac_syntax.specs.declared.program.Func.{Func}
use Rattle.psac_model.specs.declared.ends.End.{End}
use Rattle.psac_model.specs.Names.{Path, Name, Env, Heap, same_name}
use Rattle.psac_model.specs.Expression.{Setting}
use Rattle.psac_model.specs.Tree.{size_of}
use Rattle.psac_model.specs.Run.{Ran, by_path, run}
use Rattle.psac_naming.specs.Alike.{Envs, Settings}
use Rattle.psac_naming.specs.Naming.{Naming, IsNamed, IsOneToOne, IsSameTest, Unused}
use Rattle.psac_naming.proofs.Namings.{named_left, named_right, tests_names}
use Rattle.psac_naming.proofs.Trees.{envs_more, reads_more, trees_size}
use Rattle.psac_traced.specs.Rec.{Rec, HeapOf, tree_of}
use Rattle.psac_traced.specs.Traced.{traced}
use Rattle.psac_traced.specs.Renamed.{Heaps}
use Rattle.psac_traced.specs.Places.{names, Makes, IsApart}
use Rattle.psac_traced.specs.Serial.{Serial}
use Rattle.psac_traced.proofs.Alike.{trees_alike, heaps_then}
use Rattle.psac_traced.proofs.Named.{traced_twin}
use Rattle.psac_traced.proofs.Paths.{traced_is}
use Rattle.psac_traced.proofs.Places.{names_more, only_one, names_tied, alike_placed}

module _ {M : Type 0} (w : Setting M) (u : Setting Name) (same : IsSameTest w.same) (plain : u.same ≡ same_name) (funcs : List Func) where
  settings_more : (ns more : Naming M) → Settings (IsNamed ns) w u → Settings (IsNamed (ns ++ more)) w u
  settings_more ns more s =
      record {
        opened = s.opened;
        room = s.room;
        cols = s.cols;
        texts = s.texts;
        cells = λ r c h k. named_left ns more (w.cell r c) (u.cell r c) (s.cells r c h k);
        row_count = named_left ns more w.row_count u.row_count s.row_count;
      }

  -- the record stands for the run by paths, by the names so far and those that are read off it
  pub traced_serial : (ns : Naming M) → IsOneToOne ns → Settings (IsNamed ns) w u → (room : ℕ) (body : List Stmt) (env : Env M) (env' : Env Name) (heap : HeapOf M) (heap' : Heap) (p : Path) (r : Rec M) (end : End) → Envs (IsNamed ns) env env' → Heaps (IsNamed ns) heap heap' → Unused p ns → IsApart r → ((m : M) (n : Name) → IsNamed ns m n → Makes r m → ⊥) → traced w funcs room body env heap r end → Serial (ns ++ names p r) r heap end (run by_path u funcs room body env' heap' p)
  traced_serial ns one s room body env env' heap heap' p r end e h un apart new t =
      let all = ns ++ names p r in
      let T : M → Name → Type 0 = IsNamed all in
      let single : IsOneToOne all = names_more ns p r one un apart new in
      let here : (m : M) (n : Name) → IsNamed (names p r) m n → T m n = named_right ns (names p r) in
      let more : (m : M) (n : Name) → IsNamed ns m n → T m n = named_left ns (names p r) in
      let heaps : Heaps T heap heap' = reads_more (IsNamed ns) T more heap heap' h in
      let twin = traced_twin T w u funcs (settings_more ns (names p r) s) (tests_names all w.same u.same single same plain) room body env env' heap heap' r end (envs_more (IsNamed ns) T more env env' e) heaps (names_tied T p r here) t in
      let is = traced_is u plain funcs room body env' heap' p twin.rec end (alike_placed T (only_one all single) p r twin.rec here twin.alike) twin.stands in
      record {
        one = single;
        trees = rw is (trees_alike T r twin.rec twin.alike);
        ends = ap (λ (z : Ran Name Heap). z.end) is;
        heaps = rw is (heaps_then T r twin.rec heap heap' twin.alike heaps);
      }

  pub serial_size : (ns : Naming M) (r : Rec M) (heap : HeapOf M) (end : End) (ran : Ran Name Heap) → Serial ns r heap end ran → size_of (tree_of r) ≡ size_of ran.tree
  serial_size ns r heap end ran s = trees_size (IsNamed ns) (tree_of r) ran.tree s.trees
