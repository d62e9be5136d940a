-- Each look of the run of a checked program finds its name.
use Rattle.std.proofs.Common.{◌≡◌, [], map, length, All, ap, sym, ◌∙◌}
use Rattle.psac_inputs.specs.Grid.{Grid}
use Rattle.psac_model.specs.Names.{held}
use Rattle.psac_model.specs.Fresh.{World, setting, main_env, grid_heap}
use Rattle.psac_laws.specs.Standing.{series_of, params}
use Rattle.psac_laws.specs.InSeries.{fresh_in}
use Rattle.psac_laws.proofs.Good.{wider_same}
use Rattle.psac_laws.proofs.Rules.{leaves}
use Rattle.psac_laws.proofs.Opening.{IsChecked, opening_safe, in_series}
use Rattle.psac_series.specs.Ways.{Way, FindsHeld, fresh_by}
use Rattle.psac_series.specs.Looks.{FindsEachName}
use Rattle.psac_series.proofs.Alike.{Alike}
use Rattle.psac_series.proofs.Looks.{manner_of, manner_reads_held, run_alike, run_ends}

module _ (w : World) (g : Grid) (whole : length g.cells ≡ g.room) (even : All (λ row. length row ≡ g.cols) g.cells)
    (checked : IsChecked w) where
  fresh_alike : (a : Way) → FindsHeld a → Alike (fresh_by a w g) (fresh_in (manner_of a) w g)
  unfolding fresh_by fresh_in
  fresh_alike a finds =
      let l = leaves (map series_of w.main.body) (params w.main) [] checked.start.body in
      let h = grid_heap g in
      run_alike (setting w.texts g) w.program.funcs checked.each a finds 300 w.main.body (params w.main) l.end
      (main_env 0 w.main.dests []) h h [] l.meets (opening_safe w g whole even checked) (wider_same h)

  fresh_ends : (a b : Way) → FindsHeld a → FindsHeld b → ((path : _) → a.left_told path ≡ b.left_told path)
      → (fresh_by a w g).end ≡ (fresh_by b w g).end
  unfolding fresh_by
  fresh_ends a b fa fb told =
      let l = leaves (map series_of w.main.body) (params w.main) [] checked.start.body in
      let h = grid_heap g in
      run_ends (setting w.texts g) w.program.funcs checked.each a b fa fb told 300 w.main.body (params w.main) l.end
      (main_env 0 w.main.dests []) h h h [] l.meets (opening_safe w g whole even checked) (wider_same h)
      (wider_same h)

  pub finds_each : FindsEachName w g
  finds_each =
      let k = in_series w g whole even checked in
      record {
        tree = λ a f. (fresh_alike a f).tree ∙ k.tree (manner_of a) (manner_reads_held a);
        heap = λ a f m. ap (λ z. held z m) (fresh_alike a f).heap ∙ k.heap (manner_of a) (manner_reads_held a) m;
        done = λ a f.
            let e = k.end (manner_of a) (manner_reads_held a) in
            (λ done. sym e ∙ (fresh_alike a f).on done, λ done. (fresh_alike a f).back (e ∙ done));
        end = fresh_ends;
      }
