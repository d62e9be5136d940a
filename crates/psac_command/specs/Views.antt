-- What the program's own types show.
use Rattle.std.specs.Prelude.{option_map}
use Rattle.psac_command.specs.declared.request.Request.{Request as Read}
use Rattle.psac_command.specs.declared.words.Words.{Words}
use Rattle.psac_command.specs.declared.setting.Bounds.{Bounds}
use Rattle.psac_command.specs.declared.bench.BenchRequest.{BenchRequest}
use Rattle.psac_command.specs.Asked.{Asked, Given, Range}
use Rattle.psac_command.specs.Bench.{BenchAsked}

abbrev pub words_view : Words → Given
words_view w = record {
  mode = option_map (λ s. s.now) w.mode;
  program = option_map (λ s. s.now) w.program;
  input = option_map (λ s. s.now) w.input;
  workers = option_map (λ s. s.now) w.workers;
  nodes = option_map (λ s. s.now) w.nodes;
  mods = option_map (λ s. s.now) w.mods;
  links = option_map (λ s. s.now) w.links;
  rows = option_map (λ s. s.now) w.rows;
}

abbrev pub request_view : Read → Asked
request_view r = record { mode = r.mode; program = r.program.now; input = r.input.now; settings = r.settings }

abbrev pub bench_view : BenchRequest → BenchAsked
bench_view r = record { program = r.program.now; counts = r.counts; settings = r.settings }

abbrev pub bounds_view : Bounds → Range
bounds_view b = record { least = b.least; most = b.most; default = b.default }
