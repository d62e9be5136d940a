-- One turn of a session.
use Rattle.std.proofs.Common.{◌≡◌, ◌∙◌, ℕ, ◌≤◌, ◌<◌, ◌+◌, ◌-◌, Bool, true, false, List, [], ◌∷◌, ◌++◌, ◌⊎◌, inl, inr, Option, Some, None, length, take, drop, slice_index, refl, ap, sym, arith, append_assoc, length-append, get_or-take}
use Rattle.std.specs.List.{list_any, slice_range}
use Rattle.std.specs.Io.KnownBytes.{Consumes, IsAtEnd}
use Rattle.std.proofs.lemmas.List.{append-nil, drop_at, drop-take, take-append-le, take-append-drop, take-take, length-take-le}
use Rattle.std.proofs.lemmas.List.Folds.{list_any-append}
use Rattle.std.proofs.Math.ListN.{get_or-append}
use Rattle.psac_base.specs.Feeds.{lines_of, line_text}
use Rattle.psac_base.specs.Lines.{EndsAtEnd, GivesLast, GivesWhole, Grew}
use Rattle.psac_base.proofs.Splits.{last_is_last, whole_is_next}
use Rattle.psac_model.specs.Fresh.{World}
use Rattle.psac_report.specs.Script.{command_of}
use Rattle.psac_report.specs.Session.{State, shown_now}
use Rattle.psac_report.specs.Steps.{Step, is_quit, replies_by}
use Rattle.psac_session.specs.Heard.{Adds, Outward, Shows, commits, heard_by, shows_after}
use Rattle.psac_session.specs.Turned.{text_of}
use Rattle.psac_session.proofs.Adding.{adds_more, adds_none, one_heard}
use Rattle.psac_session.proofs.Replies.{replies_next, shows_next}

-- no byte, or the byte before this place ends a line
abbrev pub Behind : List ℕ → ℕ → Type 0
Behind bytes given = (given ≡ 0) ⊎ ((0 < given) × (slice_index bytes (given - 1) ≡ 10))

-- the lines that were given are answered, and the state is the one behind them, whatever comes behind what was read
pub record Going (w : World) (step : Step) (start : State) (bytes : List ℕ) (given : ℕ) (s : State) (before now : Outward) : Type 0 where
  pub lines : List (List ℕ)
  pub done : List ℕ
  pub seen : Shows
  pub adds : Adds before now done seen
  pub rest : (more : List (List ℕ)) → done ++ replies_by w step more s ≡ replies_by w step (lines ++ more) start
  pub rest_seen : (more : List (List ℕ)) → seen ++ shows_after w step more s ≡ shows_after w step (lines ++ more) start
  pub many : length seen ≤ given
  pub cut : (more : List ℕ) → lines_of (take given bytes ++ more) ≡ lines ++ lines_of more
  pub no_quit : list_any is_quit lines ≡ false
  pub within : given ≤ length bytes
  pub behind : Behind bytes given

-- the last line was answered too
pub record Over (w : World) (step : Step) (start : State) (bytes : List ℕ) (given : ℕ) (ended : Bool) (before now : Outward) : Type 0 where
  pub adds : Adds before now (replies_by w step (lines_of bytes) start) (shows_after w step (lines_of bytes) start)
  pub all : given ≡ length bytes
  pub at_end : ended ≡ true

-- nothing was read
pub begins : (w : World) (step : Step) (start : State) (bytes : List ℕ) (given : ℕ) (before : Outward) → bytes ≡ [] → given ≡ 0
    → Going w step start bytes given start before before
begins w step start bytes given before none zero = record {
  lines = [];
  done = [];
  seen = [];
  adds = adds_none before;
  rest = λ more. refl;
  rest_seen = λ more. refl;
  many = omega arith;
  cut = λ more. rw zero refl;
  no_quit = refl;
  within = omega (arith, zero);
  behind = inl zero;
}

behind_grown : (bytes got : List ℕ) (given : ℕ) → given ≤ length bytes → Behind bytes given → Behind (bytes ++ got) given
behind_grown bytes got given within (inl zero) = inl zero
behind_grown bytes got given within (inr (some, feed)) =
    let low : given - 1 < length bytes = omega arith in
    inr (some, get_or-append bytes got 0 (given - 1) low ∙ feed)

-- more was read
pub grown : (w : World) (step : Step) (start : State) (bytes got bytes' : List ℕ) (given : ℕ) (s : State) (before now : Outward) → bytes' ≡ bytes ++ got
    → Going w step start bytes given s before now → Going w step start bytes' given s before now
grown w step start bytes got bytes' given s before now grew going =
    let front : take given bytes' ≡ take given bytes = rw grew (take-append-le given bytes got going.within) in
    record {
      lines = going.lines;
      done = going.done;
      seen = going.seen;
      adds = going.adds;
      rest = going.rest;
      rest_seen = going.rest_seen;
      many = going.many;
      cut = λ more. rw front (going.cut more);
      no_quit = going.no_quit;
      within = rw grew (omega (arith, going.within, length-append bytes got));
      behind = rw grew (behind_grown bytes got given going.within going.behind);
    }

-- the lines that were given come first, whatever follows
pub cut_all : (bytes more : List ℕ) (given : ℕ) (lines : List (List ℕ)) → given ≤ length bytes
    → ((more : List ℕ) → lines_of (take given bytes ++ more) ≡ lines ++ lines_of more)
    → lines_of (bytes ++ more) ≡ lines ++ lines_of (drop given (bytes ++ more))
cut_all bytes more given lines within cut =
    let front : take given (bytes ++ more) ≡ take given bytes = take-append-le given bytes more within in
    let whole : take given bytes ++ drop given (bytes ++ more) ≡ bytes ++ more =
    ap (λ (xs : List ℕ). xs ++ drop given (bytes ++ more)) (sym front) ∙ take-append-drop given (bytes ++ more) in
    ap lines_of (sym whole) ∙ cut (drop given (bytes ++ more))

pub cut_whole : (bytes : List ℕ) (given : ℕ) (lines : List (List ℕ)) → given ≤ length bytes
    → ((more : List ℕ) → lines_of (take given bytes ++ more) ≡ lines ++ lines_of more)
    → lines_of bytes ≡ lines ++ lines_of (drop given bytes)
cut_whole bytes given lines within cut = rw (append-nil bytes) at (cut_all bytes [] given lines within cut)

-- a whole line stands in the front that ends with it
whole_in_front : (bytes : List ℕ) (from to : ℕ) (text : List ℕ) → GivesWhole bytes from to text → GivesWhole (take to bytes) from to text
whole_in_front bytes from to text whole =
    let e = whole.is_end in
    let size : length (take to bytes) ≡ to = length-take-le to bytes (omega (arith, whole.next, e.high)) in
    let at : to ≡ from + (to - from) = omega (arith, whole.next, e.low) in
    let behind : drop from (take to bytes) ≡ take (to - from) (drop from bytes) =
    ap (λ (n : ℕ). drop from (take n bytes)) at ∙ drop-take from (to - from) bytes in
    let same : slice_range (take to bytes) from whole.stop ≡ slice_range bytes from whole.stop =
    ap (take (whole.stop - from)) behind ∙ take-take (whole.stop - from) (to - from) (drop from bytes) (omega (arith, whole.next, e.low)) in
    record {
      stop = whole.stop;
      is_end = record {
        low = e.low;
        high = omega (arith, size, whole.next);
        feed = get_or-take to bytes whole.stop 0 (omega (arith, whole.next)) ∙ e.feed;
        first = λ k low high feed. e.first k low high (sym (get_or-take to bytes k 0 (omega (arith, whole.next))) ∙ feed);
      };
      next = whole.next;
      is_text = whole.is_text ∙ ap line_text (sym same);
    }

cut_next : (bytes text : List ℕ) (from to : ℕ) (lines : List (List ℕ)) → from ≤ length bytes → GivesWhole bytes from to text
    → ((more : List ℕ) → lines_of (take from bytes ++ more) ≡ lines ++ lines_of more)
    → (more : List ℕ) → lines_of (take to bytes ++ more) ≡ (lines ++ text ∷ []) ++ lines_of more
cut_next bytes text from to lines within whole cut more =
    let e = whole.is_end in
    let top = take to bytes in
    let size : length top ≡ to = length-take-le to bytes (omega (arith, whole.next, e.high)) in
    let front : take from top ≡ take from bytes = take-take from to bytes (omega (arith, whole.next, e.low)) in
    let these : lines_of (top ++ more) ≡ lines ++ lines_of (drop from (top ++ more)) =
    cut_all top more from lines (omega (arith, size, whole.next, e.low)) (λ ys. rw front (cut ys)) in
    let behind : drop to (top ++ more) ≡ more = drop_at top more to size in
    these ∙ ap (λ (ls : List (List ℕ)). lines ++ ls) (whole_is_next top more from to text (whole_in_front bytes from to text whole) ∙ ap (λ (ys : List ℕ). text ∷ lines_of ys) behind)
    ∙ sym (append_assoc lines (text ∷ []) (lines_of more))

behind_whole : (bytes : List ℕ) (from to : ℕ) (text : List ℕ) → GivesWhole bytes from to text → Behind bytes to
behind_whole bytes from to text whole =
    let some : 0 < to = omega (arith, whole.next) in
    let at : to - 1 ≡ whole.stop = omega (arith, whole.next) in
    inr (some, rw at whole.is_end.feed)

-- the replies to a line that isn't `quit`, and to those behind it
pub line_then : (w : World) (step : Step) (text out : List ℕ) (more : List (List ℕ)) (s s' : State) → is_quit text ≡ false → s' ≡ (step s (command_of text)).0
    → out ≡ text_of w (step s (command_of text)) → replies_by w step (text ∷ more) s ≡ out ++ replies_by w step more s'
line_then w step text out more s s' other state_is out_is = replies_next w step text more s other ∙ rw (out_is, state_is) refl

-- what is heard of a line that isn't `quit`, and of those behind it
pub heard_then : (w : World) (step : Step) (text : List ℕ) (more : List (List ℕ)) (s s' : State) → is_quit text ≡ false → s' ≡ (step s (command_of text)).0
    → shows_after w step (text ∷ more) s ≡ heard_by w (command_of text) s' ++ shows_after w step more s'
heard_then w step text more s s' other state_is = shows_next w step text more s other ∙ rw state_is refl

-- a whole line was answered
pub went_on : (w : World) (step : Step) (start : State) (bytes text out : List ℕ) (from to : ℕ) (s s' : State) (before now after : Outward)
    → is_quit text ≡ false → s' ≡ (step s (command_of text)).0 → out ≡ text_of w (step s (command_of text)) → GivesWhole bytes from to text
    → Going w step start bytes from s before now → Adds now after out (heard_by w (command_of text) s') → Going w step start bytes to s' before after
went_on w step start bytes text out from to s s' before now after other state_is out_is whole going wrote = record {
  lines = going.lines ++ text ∷ [];
  done = going.done ++ out;
  seen = going.seen ++ heard_by w (command_of text) s';
  adds = adds_more before now after going.done out going.seen (heard_by w (command_of text) s') going.adds wrote;
  rest = λ more.
      append_assoc going.done out (replies_by w step more s')
      ∙ ap (λ (xs : List ℕ). going.done ++ xs) (sym (line_then w step text out more s s' other state_is out_is)) ∙ going.rest (text ∷ more)
      ∙ ap (λ (ls : List (List ℕ)). replies_by w step ls start) (sym (append_assoc going.lines (text ∷ []) more));
  rest_seen = λ more.
      append_assoc going.seen (heard_by w (command_of text) s') (shows_after w step more s')
      ∙ ap (λ (xs : Shows). going.seen ++ xs) (sym (heard_then w step text more s s' other state_is)) ∙ going.rest_seen (text ∷ more)
      ∙ ap (λ (ls : List (List ℕ)). shows_after w step ls start) (sym (append_assoc going.lines (text ∷ []) more));
  many =
      omega
      (arith, going.many, length-append going.seen (heard_by w (command_of text) s'), one_heard (commits (command_of text)) (shown_now w s'), whole.next, whole.is_end.low);
  cut = cut_next bytes text from to going.lines going.within whole going.cut;
  no_quit = list_any-append is_quit going.lines (text ∷ []) ∙ rw (going.no_quit, other) refl;
  within = omega (arith, whole.next, whole.is_end.high);
  behind = behind_whole bytes from to text whole;
}

-- the last line was answered
pub finished : (w : World) (step : Step) (start : State) (bytes text out : List ℕ) (from to : ℕ) (ended : Bool) (s s' : State) (before now after : Outward)
    → is_quit text ≡ false → s' ≡ (step s (command_of text)).0 → out ≡ text_of w (step s (command_of text)) → ended ≡ true → GivesLast bytes from to text
    → Going w step start bytes from s before now → Adds now after out (heard_by w (command_of text) s') → Over w step start bytes to ended before after
finished w step start bytes text out from to ended s s' before now after other state_is out_is at_end last going wrote =
    let all : lines_of bytes ≡ going.lines ++ text ∷ [] =
    cut_whole bytes from going.lines going.within going.cut ∙ ap (λ (ls : List (List ℕ)). going.lines ++ ls) (last_is_last bytes from to text last) in
    let reply : replies_by w step (text ∷ []) s ≡ out = line_then w step text out [] s s' other state_is out_is ∙ append-nil out in
    let report : going.done ++ out ≡ replies_by w step (lines_of bytes) start =
    ap (λ (xs : List ℕ). going.done ++ xs) (sym reply) ∙ going.rest (text ∷ []) ∙ ap (λ (ls : List (List ℕ)). replies_by w step ls start) (sym all) in
    let hear = heard_by w (command_of text) s' in
    let heard : shows_after w step (text ∷ []) s ≡ hear = heard_then w step text [] s s' other state_is ∙ append-nil hear in
    let shows : going.seen ++ hear ≡ shows_after w step (lines_of bytes) start =
    ap (λ (xs : Shows). going.seen ++ xs) (sym heard) ∙ going.rest_seen (text ∷ []) ∙ ap (λ (ls : List (List ℕ)). shows_after w step ls start) (sym all) in
    record {
      adds = rw (← report, ← shows) (adds_more before now after going.done out going.seen hear going.adds wrote);
      all = last.next;
      at_end = at_end;
    }

-- a noted end is the source's
pub end_noted : (ended ended' : Bool) (left left' : Option (List ℕ)) → EndsAtEnd ended ended' left' → (ended ≡ true → IsAtEnd left) → (ended ≡ true → left' ≡ left)
    → ended' ≡ true → IsAtEnd left'
end_noted ended ended' left left' (inr noted) before same now = noted.1
end_noted ended ended' left left' (inl still) before same now =
    let was : ended ≡ true = sym still ∙ now in
    rw (same was) (before was)

Consumes-more : (first left left' : Option (List ℕ)) (xs ys : List ℕ) → Consumes first left xs → Consumes left left' ys → Consumes first left' (xs ++ ys)
Consumes-more None left left' xs ys before after = tt
Consumes-more (Some a) None left' xs ys before after = absurd before
Consumes-more (Some a) (Some b) None xs ys before after = absurd after
Consumes-more (Some a) (Some b) (Some c) xs ys before after = rw (append_assoc xs ys c, ← after) before

pub took_all : (bytes bytes' : List ℕ) (first left left' : Option (List ℕ)) (n n' : ℕ) → Grew bytes bytes' left left' n n'
    → Consumes first left bytes → Consumes first left' bytes'
took_all bytes bytes' first left left' n n' grew took = rw grew.bytes (Consumes-more first left left' bytes grew.got took grew.source)
