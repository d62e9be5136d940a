-- What is said of one answer holds of an equal one.
use Rattle.std.proofs.Common.{◌≡◌, ℕ, List, Option, length, take, subst}
use Rattle.psac_base.specs.Feeds.{lines_of}
use Rattle.psac_base.specs.Outside.{Appended}
use Rattle.psac_session.specs.Answered.{Answer, AnsweredLong, AnsweredTo, AnsweredWhole}

abbrev Same : Answer → Answer → Type 0
Same f h = (lines : List (List ℕ)) → f lines ≡ h lines

to_same : (f h : Answer) (bytes : List ℕ) (far : ℕ) (before now : Option (List ℕ)) → Same f h → AnsweredTo f bytes far before now → AnsweredTo h bytes far before now
to_same f h bytes far before now same to =
    record {
      upto = to.upto;
      within = to.within;
      behind = to.behind;
      none = to.none;
      no_quit = to.no_quit;
      written = subst (λ t. Appended before now t) (same (lines_of (take to.upto bytes))) to.written;
    }

pub whole_same : (f h : Answer) (left left_now before now : Option (List ℕ)) → Same f h → AnsweredWhole f left left_now before now → AnsweredWhole h left left_now before now
whole_same f h left left_now before now same told =
    record { bytes = told.bytes; took = told.took; answered = to_same f h told.bytes (length told.bytes) before now same told.answered }

pub long_same : (f h : Answer) (left left_now before now : Option (List ℕ)) → Same f h → AnsweredLong f left left_now before now → AnsweredLong h left left_now before now
long_same f h left left_now before now same told =
    record { bytes = told.bytes; took = told.took; count = told.count; answered = to_same f h told.bytes 16773121 before now same told.answered }
