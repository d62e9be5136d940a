use Rattle.std.proofs.Common.{arith, ℕ, length, ◌+◌, ◌∙◌, ◌++◌, [], sym, ap}
use Rattle.std.proofs.lemmas.List.{append-nil}
use Rattle.psac_tokens.specs.declared.token.Kind.{Kind}
use Rattle.psac_tokens.specs.Lex.{lexeme}
use Rattle.psac_tokens.specs.Number.{tokens_after, names_after, texts_after, reads_after}
use Rattle.psac_tokens.proofs.Turns.{Numbers, Adds, goes_on, ends, none_left, last_is, tokens_on, names_on, texts_on, reads_on}
use Rattle.psac_tokens.proofs.tokens.lex.Goals as goal

pub returns-then-len-eq0-clause-tokens : goal.returns-then-len-eq0-clause-tokens
returns-then-len-eq0-clause-tokens c =
    let p = c.skip.result.1 in
    let f : Kind × ℕ = (c.in_ok-kind.kind, c.in_ok-kind.len) in
    let one = ends (length c.args.text.now + 1) c.turns.counter c.turns.rest.now c.skip.result.0.now c.turns.place p f (omega arith) c.skip.ensures.value.0 c.skip.ensures.value.1 c.in_ok-kind.ensures.value c.if-len-eq0.true in
    let x = lexeme f (c.skip.result.0.now, p) in
    let is = last_is f.0 c.turns.so_far.names c.turns.so_far.texts c.turns.so_far.reads x.text p.line p.column (c.in_ok-kind.ensures.last c.if-len-eq0.true) in
    let n : Numbers = record { names = c.turns.so_far.names; texts = c.turns.so_far.texts; reads = c.turns.so_far.reads } in
    let same : Adds n n x = record { names = sym is.1; texts = sym is.2; reads = sym is.3 } in
    c.in_ok-finished.ensures.tokens ∙ sym (append-nil c.push.new.self.items) ∙ tokens_on n n x _ [] c.turns.tokens.items _ _ _ same one (c.bare.ensures ∙ sym is.0) c.in_ok-push.ensures.items c.turns.invariant.tokens

pub returns-then-len-eq0-clause-names : goal.returns-then-len-eq0-clause-names
returns-then-len-eq0-clause-names c =
    let p = c.skip.result.1 in
    let f : Kind × ℕ = (c.in_ok-kind.kind, c.in_ok-kind.len) in
    let one = ends (length c.args.text.now + 1) c.turns.counter c.turns.rest.now c.skip.result.0.now c.turns.place p f (omega arith) c.skip.ensures.value.0 c.skip.ensures.value.1 c.in_ok-kind.ensures.value c.if-len-eq0.true in
    let x = lexeme f (c.skip.result.0.now, p) in
    let is = last_is f.0 c.turns.so_far.names c.turns.so_far.texts c.turns.so_far.reads x.text p.line p.column (c.in_ok-kind.ensures.last c.if-len-eq0.true) in
    let n : Numbers = record { names = c.turns.so_far.names; texts = c.turns.so_far.texts; reads = c.turns.so_far.reads } in
    let same : Adds n n x = record { names = sym is.1; texts = sym is.2; reads = sym is.3 } in
    c.in_ok-finished.ensures.names ∙ names_on n n x _ [] _ same one c.turns.invariant.names

pub returns-then-len-eq0-clause-texts : goal.returns-then-len-eq0-clause-texts
returns-then-len-eq0-clause-texts c =
    let p = c.skip.result.1 in
    let f : Kind × ℕ = (c.in_ok-kind.kind, c.in_ok-kind.len) in
    let one = ends (length c.args.text.now + 1) c.turns.counter c.turns.rest.now c.skip.result.0.now c.turns.place p f (omega arith) c.skip.ensures.value.0 c.skip.ensures.value.1 c.in_ok-kind.ensures.value c.if-len-eq0.true in
    let x = lexeme f (c.skip.result.0.now, p) in
    let is = last_is f.0 c.turns.so_far.names c.turns.so_far.texts c.turns.so_far.reads x.text p.line p.column (c.in_ok-kind.ensures.last c.if-len-eq0.true) in
    let n : Numbers = record { names = c.turns.so_far.names; texts = c.turns.so_far.texts; reads = c.turns.so_far.reads } in
    let same : Adds n n x = record { names = sym is.1; texts = sym is.2; reads = sym is.3 } in
    c.in_ok-finished.ensures.texts ∙ texts_on n n x _ [] _ same one c.turns.invariant.texts

pub returns-then-len-eq0-clause-reads : goal.returns-then-len-eq0-clause-reads
returns-then-len-eq0-clause-reads c =
    let p = c.skip.result.1 in
    let f : Kind × ℕ = (c.in_ok-kind.kind, c.in_ok-kind.len) in
    let one = ends (length c.args.text.now + 1) c.turns.counter c.turns.rest.now c.skip.result.0.now c.turns.place p f (omega arith) c.skip.ensures.value.0 c.skip.ensures.value.1 c.in_ok-kind.ensures.value c.if-len-eq0.true in
    let x = lexeme f (c.skip.result.0.now, p) in
    let is = last_is f.0 c.turns.so_far.names c.turns.so_far.texts c.turns.so_far.reads x.text p.line p.column (c.in_ok-kind.ensures.last c.if-len-eq0.true) in
    let n : Numbers = record { names = c.turns.so_far.names; texts = c.turns.so_far.texts; reads = c.turns.so_far.reads } in
    let same : Adds n n x = record { names = sym is.1; texts = sym is.2; reads = sym is.3 } in
    c.in_ok-finished.ensures.reads ∙ reads_on n n x _ [] _ same one c.turns.invariant.reads

pub turns-preserved : goal.turns-preserved
turns-preserved c =
    let p = c.skip.result.1 in
    let f : Kind × ℕ = (c.in_ok-kind.kind, c.in_ok-kind.len) in
    let z = c.skip.result.0.now in
    let one = goes_on (length c.args.text.now + 1) c.turns.counter c.turns.rest.now z c.turns.place p f (omega arith) c.skip.ensures.value.0 c.skip.ensures.value.1 c.in_ok-kind.ensures.value c.if-len-eq0.false in
    let x = lexeme f (z, p) in
    let n : Numbers = record { names = c.turns.so_far.names; texts = c.turns.so_far.texts; reads = c.turns.so_far.reads } in
    let m : Numbers = record { names = c.token.new.self.names; texts = c.token.new.self.texts; reads = c.token.new.self.reads } in
    let adds : Adds n m x = record { names = rw (← c.split_at.ensures.front) c.in_ok-token.ensures.names; texts = rw (← c.split_at.ensures.front) c.in_ok-token.ensures.texts; reads = c.in_ok-token.ensures.reads } in
    record {
      tokens = rw c.split_at.ensures.back (tokens_on n m x _ _ c.turns.tokens.items _ _ _ adds one (rw (← c.split_at.ensures.front) c.in_ok-token.ensures.value) c.in_ok-push-2.ensures.items c.turns.invariant.tokens);
      names = rw c.split_at.ensures.back (names_on n m x _ _ _ adds one c.turns.invariant.names);
      texts = rw c.split_at.ensures.back (texts_on n m x _ _ _ adds one c.turns.invariant.texts);
      reads = rw c.split_at.ensures.back (reads_on n m x _ _ _ adds one c.turns.invariant.reads);
      fits = (omega (arith, c.skip.ensures.fits, c.in_ok-kind.ensures.within, c.split_at.ensures.back_len), omega (arith, c.skip.ensures.fits, c.in_ok-kind.ensures.within, c.split_at.ensures.back_len));
      within = omega (arith, c.skip.ensures.within, c.split_at.ensures.back_len, c.turns.invariant.within);
      few_names = omega (arith, c.skip.ensures.within, c.split_at.ensures.back_len, c.turns.invariant.within, c.in_ok-token.ensures.room.0, c.if-len-eq0.false, c.in_ok-kind.ensures.within, c.turns.invariant.few_names);
      few_texts = omega (arith, c.skip.ensures.within, c.split_at.ensures.back_len, c.turns.invariant.within, c.in_ok-token.ensures.room.1, c.if-len-eq0.false, c.in_ok-kind.ensures.within, c.turns.invariant.few_texts);
      few_reads = omega (arith, c.skip.ensures.within, c.split_at.ensures.back_len, c.turns.invariant.within, c.in_ok-token.ensures.room.2, c.if-len-eq0.false, c.in_ok-kind.ensures.within, c.turns.invariant.few_reads);
    }

pub returns-clause-tokens : goal.returns-clause-tokens
returns-clause-tokens c =
    let none = none_left (length c.args.text.now + 1) c.turns.counter c.turns.rest.now c.turns.place (omega arith) in
    c.in_ok-finished-2.ensures.tokens ∙ sym (append-nil c.turns.tokens.items) ∙ ap (λ xs. c.turns.tokens.items ++ tokens_after c.turns.so_far.names c.turns.so_far.texts c.turns.so_far.reads xs) (sym none) ∙ c.turns.invariant.tokens

pub returns-clause-names : goal.returns-clause-names
returns-clause-names c =
    let none = none_left (length c.args.text.now + 1) c.turns.counter c.turns.rest.now c.turns.place (omega arith) in
    c.in_ok-finished-2.ensures.names ∙ ap (names_after c.turns.so_far.names) (sym none) ∙ c.turns.invariant.names

pub returns-clause-texts : goal.returns-clause-texts
returns-clause-texts c =
    let none = none_left (length c.args.text.now + 1) c.turns.counter c.turns.rest.now c.turns.place (omega arith) in
    c.in_ok-finished-2.ensures.texts ∙ ap (texts_after c.turns.so_far.texts) (sym none) ∙ c.turns.invariant.texts

pub returns-clause-reads : goal.returns-clause-reads
returns-clause-reads c =
    let none = none_left (length c.args.text.now + 1) c.turns.counter c.turns.rest.now c.turns.place (omega arith) in
    c.in_ok-finished-2.ensures.reads ∙ ap (reads_after c.turns.so_far.reads) (sym none) ∙ c.turns.invariant.reads
