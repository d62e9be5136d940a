-- The laws of what holds of a pass between two calls.
use Rattle.psac_repair.specs.FitLaws.{SetsFit, NodesFit}
use Rattle.psac_repair.proofs.Meeting.{passed_joined}
use Rattle.psac_repair.proofs.Readying.{ready_left, ready_right, ready_joined}
use Rattle.psac_repair.proofs.Rooting.{rooted_left, rooted_right, rooted_joined}

pub sets_fit : SetsFit
sets_fit v r l k same one two s =
    record {
      left = ready_left l k v r same one two s;
      right = ready_right l k v r same one two s;
      both = λ a b j x y z g m e n ka mx my is ris sa sb. ready_joined l k v a b j r x y z g m e n same ka mx my is ris sa sb;
    }

pub nodes_fit : NodesFit
nodes_fit m us above n l k rooted p =
    record {
      left = rooted_left m rooted us above n l k p;
      right = rooted_right m rooted us above n l k p;
      passed = λ a b j pa pb is un. passed_joined m rooted us above n l k p a b j pa pb is un;
      both = λ a b j pa pb ra rb is un gone held.
          rooted_joined m rooted us above n l k p a b j pa (passed_joined m rooted us above n l k p a b j pa pb is un) ra rb is un gone held;
    }
