-- The walk of a repair, call by call, as its laws say it.
use Rattle.std.proofs.Common.{sym, subst}
use Rattle.psac_repair.specs.Laws.{NeedsOf, TellsOf, PartOf}
use Rattle.psac_record.specs.Kept.{S, P, R, bare}
use Rattle.psac_repair.specs.Ended.{Good}
use Rattle.psac_repair.specs.WalkLaws.{Here, Gone, PartGone, AskedBegins, AskedLeaves, PartAskedLeaves, LookedBegins, LookedLeaves, PartLookedLeaves, MadeGoes, WroteGoes, BodiesGo, StepsGo, SidesInTurn, SidesAtOnce, BlocksGo}
use Rattle.psac_repair.proofs.Visiting.{asked_before, asked_after, looked_before, looked_after, needs_looked, tells_looked, rest_looked}
use Rattle.psac_repair.proofs.Layers.{Q, made_before, made_after, wrote_before, wrote_after, step_before, step_stop, rest_before, rest_after, step_owns_it, step_bare_it, step_done, below_stop, body_before, body_after, left_before, left_out, right_before, right_stop, pair_owns, pair_bare, pair_done, block_knows, block_before, block_stop, block_owns_it, block_bare_it, block_done}
use Rattle.psac_repair.proofs.Forking.{side_left, side_right, sides_after, sides_owns, sides_bare, sides_done}

pub asked_begins : AskedBegins
asked_begins g us above stood k p q a b = subst (λ z. Here g us above stood k z) (sym a.1) (asked_before (NeedsOf g) g.funcs us above stood k p a.0 b)

pub asked_leaves : AskedLeaves
asked_leaves g us above k new p q x e a b = asked_after (NeedsOf g) g.funcs us above (bare k) k p a.0 (TellsOf g (bare k)) new x e (subst (λ z. Gone g us above k new z x e) a.1 b)

pub part_asked_leaves : PartAskedLeaves
part_asked_leaves g us above k rest new p q x e a b =
    asked_after (NeedsOf g) g.funcs us above (bare k) k p a.0 (PartOf g (bare k) (bare rest)) new x e (subst (λ z. PartGone g us above rest k new z x e) a.1 b)

pub looked_begins : LookedBegins
looked_begins g us above stood k p q a b =
    subst (λ z. Here g us above stood k z) (sym a.1) (looked_before (NeedsOf g) g.funcs us above stood k p a.0 (needs_looked p.values a.0 g.setting g.funcs (Q g) stood) b)

pub looked_leaves : LookedLeaves
looked_leaves g us above k new p q x e a b =
    looked_after (NeedsOf g) g.funcs us above (bare k) k p a.0 (TellsOf g (bare k)) new x e (λ drawn. tells_looked p.values a.0 g.setting g.funcs (Q g) (bare k) x.values drawn e)
    (subst (λ z. Gone g us above k new z x e) a.1 b)

pub part_looked_leaves : PartLookedLeaves
part_looked_leaves g us above k rest new p q x e a b =
    looked_after (NeedsOf g) g.funcs us above (bare k) k p a.0 (PartOf g (bare k) (bare rest)) new x e (λ drawn. rest_looked p.values a.0 g.setting g.funcs (Q g) (bare k) (bare rest) x.values drawn e)
    (subst (λ z. PartGone g us above rest k new z x e) a.1 b)

pub made_goes : MadeGoes
made_goes g us above m r p b = record { rest = made_before g us above m r p b; whole = made_after g us above m r p b }

pub wrote_goes : WroteGoes
wrote_goes g us above m x r p b = record { rest = wrote_before g us above m x r p b; whole = wrote_after g us above m x r p b }

pub bodies_go : BodiesGo
bodies_go g us above t rest p is b = record { body = body_before g us above t rest p is b; whole = body_after g us above t rest p is b }

pub steps_go : StepsGo
steps_go g us above n t r p b =
    record {
      part = step_before g us above n t r p b;
      stop = step_stop g us above n t r p b;
      rest = rest_before g us above n t r p b;
      both = λ u w q x e a c. rest_after g us above n t r p b u q a w x e c;
      owns = step_owns_it g us above n t r p b;
      bared = step_bare_it g us above n t r p b;
      done = λ u w q x z a c. subst (λ y. Gone g us above (S n t r) (S n u w) p y (Good z)) (sym c) (step_done g us above n t r p b (TellsOf g (bare (S n t r))) u w q z a);
      undone = λ u w new q e h a. below_stop g (TellsOf g (bare (S n t r))) us above n (S n) t r u w new p q e h a;
    }

pub sides_in_turn : SidesInTurn
sides_in_turn g us above n l k rest p b =
    record {
      left = left_before g us above n l k rest p b;
      out = left_out g us above n l k rest p b;
      right = right_before g us above n l k rest p b;
      stop = λ u w new q x e a f c. right_stop g us above n l k rest p b u q a w new x e f c;
      owns = λ u w q x a c. pair_owns g us above n l k rest p b u q a w x c;
      bared = λ u w q x a c. pair_bare g us above n l k rest p b u q a w x c;
      done = λ u w q x y a c d. subst (λ z. PartGone g us above rest (P n l k) (P n u w) p z (Good (bare (P n u w)))) (sym d) (pair_done g us above n l k rest p b u q a w x c);
    }

pub sides_at_once : SidesAtOnce
sides_at_once g us above n l k rest p b =
    record {
      left = side_left g us above n l k rest p b;
      right = side_right g us above n l k rest p b;
      both = sides_after g us above n l k rest p b;
      owns = sides_owns g us above n l k rest p b;
      bared = sides_bare g us above n l k rest p b;
      done = λ u w q x z a c. subst (λ y. PartGone g us above rest (P n l k) (P n u w) p y (Good z)) (sym c) (sides_done g us above n l k rest p b u w q z a);
      undone = λ u w new q e h a. below_stop g (PartOf g (bare (P n l k)) (bare rest)) us above n (P n) l k u w new p q e h a;
    }

pub blocks_go : BlocksGo
blocks_go g us above c t rest p b = (
  block_knows g us above c t rest p b,
  λ seen. record {
    body = block_before g us above c t rest p b seen;
    stop = block_stop g us above c t rest p b seen;
    owns = block_owns_it g us above c t rest p b seen;
    bared = block_bare_it g us above c t rest p b seen;
    done = λ u q x a d. subst (λ z. PartGone g us above rest (R c t) (R c u) p z (Good (bare (R c u)))) (sym d) (block_done g us above c t rest p b seen u q a);
  },
)
