-- The laws of links along the walk.
use Rattle.std.proofs.Common.{refl}
use Rattle.psac_record.specs.Kept.{A, W, S, P, bare}
use Rattle.psac_repair.specs.LinkLaws.{KeptWires, LinksStay, MadeWires, WroteWires, StepsWire, TurnsWire, SidesWireUp, BlocksWire, PartReads, SideReads, RecordsOrdered}
use Rattle.psac_traced.specs.Bodies.{IsCode}
use Rattle.psac_traced.proofs.Bodies.{code_closed}
use Rattle.psac_repair.proofs.Along.{goes_along, reads_along}
use Rattle.psac_repair.proofs.Unread.{unread_behind, unread_beside}
use Rattle.psac_repair.proofs.Ordering.{sorted, ordered_by}
use Rattle.psac_repair.proofs.Rewiring.{wired_made, wired_wrote, rewired_made, rewired_wrote, rewired_kept, rewired_as, relinks_as, relinks_of, wired_part, wired_rest, rewired_turn, relinks_turn}
use Rattle.psac_repair.proofs.Rerunning.{wired_body, rewired_block, relinks_block, rewired_redone, readers_lead, set_stays}
use Rattle.psac_repair.proofs.Dividing.{pair_planted, pair_wired, pair_ordered, wired_left, wired_right, rewired_joined, relinks_joined}

pub kept_wires : KeptWires
kept_wires r k h o = rewired_kept r k h o

pub links_stay : LinksStay
links_stay r q old new gone made a = relinks_of r q old new gone made a

pub made_wires : MadeWires
made_wires r m us above h k w = record { rest = wired_made r m us above h k w; whole = λ q u gone made a. rewired_made r q h k u gone made a; beside = λ q gone made a. relinks_as r q k (A h k) gone made refl a }

pub wrote_wires : WroteWires
wrote_wires r m us above h x k w = record { rest = wired_wrote r m us above h x k w; whole = λ q u gone made a. rewired_wrote r q h x k u gone made a; beside = λ q gone made a. relinks_as r q k (W h x k) gone made refl a }

pub steps_wire : StepsWire
steps_wire r m us above n t k p w o =
    record {
      part = wired_part r m us above n t k p w o;
      rest = λ q x gone made a c free. wired_rest r m us above n t k p w o q gone made a x c free;
      both = λ q y u v gone left made new a b. rewired_turn r m us above n t k p w o q u gone made a y v left new b;
      beside = λ q y gone left made new a b. relinks_turn r m us above n t k p w o q gone made a y left new b;
    }

pub turns_wire : TurnsWire
turns_wire r m us above n l k p w o =
    let sp = pair_planted m us above n l k p in
    let sw = pair_wired r m us above n l k w in
    let so = pair_ordered n l k o in
    record {
      part = wired_part r m us above n l k sp sw so;
      rest = λ q x gone made a c free. wired_rest r m us above n l k sp sw so q gone made a x c free;
      beside = λ q y gone left made new a b. relinks_as r y (S n l k) (P n l k) _ _ refl (relinks_turn r m us above n l k sp sw so q gone made a y left new b);
      both = λ q y u v gone left made new a b. rewired_as r y (S n l k) (S n u v) (P n l k) (P n u v) _ _ refl refl (rewired_turn r m us above n l k sp sw so q u gone made a y v left new b);
    }

pub sides_wire : SidesWireUp
sides_wire r m us above n l k rooted p w o =
    record {
      left = wired_left r m us above n l k rooted p w o;
      right = wired_right r m us above n l k rooted p w o;
      both = λ a b j u v gone left made new labels ra rb is once.
          rewired_joined r m us above n l k rooted p w o a b j gone left made new labels (relinks_of _ _ _ _ _ _ ra) (relinks_of _ _ _ _ _ _ rb) is once u v ra rb;
      beside = λ a b j gone left made new labels ra rb is once. relinks_joined r m us above n l k rooted p w o a b j gone left made new labels ra rb is once;
    }

pub blocks_wire : BlocksWire
blocks_wire r m us above b t p w =
    record {
      body = wired_body r m us above b t p w;
      same = λ q u gone made a. rewired_block r m us above b t p w q b u gone made refl a;
      beside = λ q gone made a. relinks_block r m us above b t p w q gone made a;
      again = λ q x c u e left more each. rewired_block r m us above b t p w x c u _ _ e (rewired_redone r q x t u w.once left more each);
      may_raise = λ q y o left on s d.
          let e = set_stays r m us above b t p w o q left s d in
          (e.0, e.1, readers_lead r m us above b t p w o q left y on s d);
    }

pub part_reads : PartReads
part_reads g v u t k new drawn apart ow kept n told s i =
    unread_behind g.setting g.funcs (IsCode g.funcs g.main) (code_closed g.funcs g.main) (goes_along g.setting g.funcs g.checked) (reads_along g.setting) g.same v u t k new drawn apart ow kept n told s i

pub side_reads : SideReads
side_reads g v u l k new r drawn apart tidy ol ok kept n told s i =
    unread_beside g.setting g.funcs (IsCode g.funcs g.main) (code_closed g.funcs g.main) (goes_along g.setting g.funcs g.checked) (reads_along g.setting) g.same v u l k new r drawn apart tidy ol ok kept n told s i

pub records_ordered : RecordsOrdered
records_ordered g v m k apart tidy own h n =
    ordered_by v m tidy k own h (sorted g.setting g.funcs (IsCode g.funcs g.main) (code_closed g.funcs g.main) (goes_along g.setting g.funcs g.checked) (reads_along g.setting) v (bare k) apart n)
