-- The laws of the walk, each of one program.
use Rattle.std.proofs.Common.{◌≡◌, ◌-◌, true, false, List, refl, sym, subst}
use Rattle.psac_syntax.specs.declared.program.Stmt.{Stmt}
use Rattle.psac_traced.specs.Bodies.{IsCode}
use Rattle.psac_traced.specs.Parts.{IsClosed}
use Rattle.psac_traced.proofs.Bodies.{code_closed}
use Rattle.psac_model.specs.Fresh.{levels}
use Rattle.psac_traced.specs.Mending.{unlike}
use Rattle.psac_record.specs.Kept.{bare, env_of, reads_of}
use Rattle.psac_repair.proofs.Sighted.{known_of}
use Rattle.psac_repair.specs.Scope.{GoesAlong, ReadsAlong}
use Rattle.psac_repair.specs.Laws.{SeriesAlong, Program, QuietIsKept, MadeAddsUp, WroteAddsUp, InnerAddsUp, RestAddsUp, TurnsAddUp, UntriedAddsUp, SidesAddUp, BlockIsKnown, BlockAddsUp, ChangedAddsUp, PartsStandUp, SidesStandUp}
use Rattle.psac_repair.proofs.Along.{goes_along, reads_along}
use Rattle.psac_repair.proofs.Tells.{tells_made, tells_wrote, tells_inner, tells_rest, tells_turn, tells_untried, known_reads, tells_block, needs_redo, tells_redo}
use Rattle.psac_repair.proofs.Quiet.{quiet, like_itself}
use Rattle.psac_repair.proofs.Sides.{tells_forked}
use Rattle.psac_repair.proofs.Planting.{planted_part, planted_rest, halves_turn}
use Rattle.psac_repair.proofs.Meeting.{halves_joined}

pub along : SeriesAlong
along w funcs checked = (goes_along w funcs checked, reads_along w)

module _ (g : Program) where
  abbrev Q : List Stmt → Type 0
  Q = IsCode g.funcs g.main

  closed : IsClosed g.funcs Q
  closed = code_closed g.funcs g.main

  go : GoesAlong g.setting g.funcs
  go = goes_along g.setting g.funcs g.checked

  reading : ReadsAlong g.setting
  reading = reads_along g.setting

pub quiet_kept : QuietIsKept
quiet_kept g v r tidy apart ow p = quiet g.setting g.same g.funcs (Q g) (closed g) (go g) (reading g) v tidy r apart ow p

pub made_adds : MadeAddsUp
made_adds g v u m r drawn e apart ow t = tells_made g.setting g.funcs (Q g) (closed g) (go g) (reading g) v u m r apart ow drawn e t

pub wrote_adds : WroteAddsUp
wrote_adds g v u m x r drawn e ow k t = tells_wrote g.setting g.funcs (Q g) (closed g) (go g) (reading g) v u m x r ow k drawn e t

pub inner_adds : InnerAddsUp
inner_adds g v u t r drawn e is apart ow k told = tells_inner g.setting g.funcs (Q g) (closed g) (go g) (reading g) t r is apart v u ow k drawn e told

pub rest_adds : RestAddsUp
rest_adds g v u x part rest new drawn more all e t k sum told = tells_rest g.setting g.funcs (Q g) (closed g) (go g) (reading g) v u x part rest new drawn more all t k sum e told

pub turns_add : TurnsAddUp
turns_add g v u x l k r drawn more all one two apart ok or ku kx full sum t q = tells_turn g.setting g.funcs (Q g) (closed g) (go g) (reading g) l k r apart v u ku ok drawn x kx or more all sum one two full t q

pub untried_adds : UntriedAddsUp
untried_adds g v u l k r drawn one apart ok ku full t = tells_untried g.setting g.funcs (Q g) (closed g) (go g) (reading g) l k r apart v u ku ok drawn one full t

pub sides_add : SidesAddUp
sides_add g v a b j l k r drawn more all one two apart tidy ol ok or ka kb is un sum ta tb =
    tells_forked g.setting g.funcs (Q g) (closed g) (go g) (reading g) l k r apart v tidy ol ok a b j ka kb is un or drawn more all sum one two ta tb

pub parts_stand : PartsStandUp
parts_stand m us above n t r p =
    record {
      part = planted_part m us above n t r p;
      rest = λ q u a. planted_rest m us above n t r p q u a;
      both = λ q x u w a b. halves_turn m us above n t r p q u a x w b;
    }

pub sides_stand : SidesStandUp
sides_stand m a b j us above n l r u w rooted p pa pb is un = halves_joined m rooted us above n l r p a b j pa.passed pb.passed is un u w pa pb

pub block_known : BlockIsKnown
block_known g v b t r apart n =
    known_of v b.reads (known_reads g.setting g.funcs (Q g) (closed g) (go g) (reading g) (levels - b.level) b.block (env_of b.env) (reads_of b.reads) (bare t) r apart v n)

pub block_adds : BlockAddsUp
block_adds g v u level number saved reads t r drawn e apart p ow k told =
    tells_block g.setting g.funcs (Q g) (closed g) (go g) (reading g) level number saved reads t r apart v (record { names = refl; seen = p })
    (subst (λ z. unlike z reads reads ≡ false) (sym g.same) (like_itself reads)) u ow k drawn e told

pub changed_adds : ChangedAddsUp
changed_adds g v level number saved reads again t r items first apart now other is =
    let other_one = subst (λ z. unlike z reads again ≡ true) (sym g.same) other in
    record {
      begins = needs_redo g.setting g.funcs (Q g) (closed g) (go g) (reading g) level number saved reads t r apart v again now other_one items first is;
      adds = λ u drawn e ow k told. tells_redo g.setting g.funcs (Q g) (closed g) (go g) (reading g) level number saved reads t r apart v again now other_one items first is u ow k drawn e told;
    }
