-- The plain evaluator's data, as the definitions see it.
use Rattle.std.specs.Prelude.{◌≡◌, List, map, Option}
use Rattle.psac_ops.specs.declared.plain.Handle.{Handle}
use Rattle.psac_ops.specs.declared.plain.Plain.{Plain}
use Rattle.psac_ops.specs.Value.{Value}
use Rattle.psac_ops.specs.Named.{value_of}
use Rattle.psac_plain.specs.declared.ask.Seen.{Seen}
use Rattle.psac_plain.specs.declared.ask.Action.{Action as Asked}
use Rattle.psac_plain.specs.declared.ask.Action.TheVariants as asked
use Rattle.psac_model.specs.Tree.{Reads, size_of, add_size}
use Rattle.psac_model.specs.declared.ends.End.{End}
use Rattle.psac_model.specs.declared.ends.End.TheVariants.{Done, Stop}
use Rattle.psac_model.specs.declared.ends.Size.{Size}
use Rattle.psac_model.specs.Names.{Env}
use Rattle.psac_model.specs.Plain.{capped}
use Rattle.psac_model.specs.Run.{Action, Bind, Make, Put, Body, Block, Sides, Ran, with_reads}
use Rattle.psac_plain.specs.Slots.{Places, env_of, map_plain}

abbrev pub places_of : List (Option Plain) → Places
places_of = map map_plain

abbrev pub seen_pair : Seen → Handle × Value Handle
seen_pair s = (s.from, value_of s.value)

abbrev pub reads_view : List Seen → Reads Handle
reads_view = map seen_pair

-- what is asked for under an environment
abbrev pub action_view : Env Handle → Asked → Action Handle
action_view env (asked.Bind x v) = Bind x (value_of v)
action_view env (asked.Make d) = Make d
action_view env (asked.Put m v) = Put m (value_of v)
action_view env (asked.Branch body) = Body body.now env
action_view env (asked.Called body inner) = Body body.now (env_of inner.items)
action_view env (asked.Block block reads items body) = Block block (reads_view reads.items) body.now (with_reads env items.now (reads_view reads.items))
action_view env (asked.Sides left right) = Sides left.now right.now

-- what a call left is what a run gives
pub record Ends (r : Ran Handle Places) (told : End) (left : Places) (before after : Size) : Type 0 where
  pub end : told ≡ r.end
  pub heap : left ≡ r.heap
  pub size : capped after ≡ capped (add_size before (size_of r.tree))

-- what a call left after a statement that ended so: what the rest gives where that is done, and else what was there
abbrev pub GoesOn : End → Ran Handle Places → End → Places → Places → Size → Size → Type 0
GoesOn Done r told heap left before after = Ends r told left before after
GoesOn (Stop k line) r told heap left before after = (told ≡ Stop k line) × (left ≡ heap) × (after ≡ before)
