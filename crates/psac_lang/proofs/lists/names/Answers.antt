use Rattle.std.proofs.Common.{arith, ◌+◌, ◌∙◌, ap, sym, refl, ◌∷◌, [], ◌++◌, length, length-append, add-zero}
use Rattle.std.proofs.lemmas.Result.{err_from_is_err_and}
use Rattle.psac_grammar.specs.Machine.{make, names, more_names, listed, behind_list, begun_behind, of_name, of_names, name_made, first, run}
use Rattle.psac_lang.specs.Reads.{name_list}
use Rattle.psac_lang.proofs.Moves.{fails_from, makes}
use Rattle.psac_lang.proofs.Sequences as sequences
use Rattle.psac_lang.proofs.lists.names.Goals as goal

pub returns-in_err-take-clause-reads : goal.returns-in_err-take-clause-reads
returns-in_err-take-clause-reads c s vs =
    let p = err_from_is_err_and c.from_residual.result c.from_residual.ensures.1 in
    rw (p.1, p.2) (c.in_err-take.ensures.takes (names (name_list c.args.list) c.args.beside) (behind_list (name_list c.args.list) c.args.beside) (begun_behind (name_list c.args.list)) s (of_names [] ∷ vs) (sequences.names_close (name_list c.args.list) c.args.beside c.peek.result (first c.args.tokens.now) c.peek.ensures c.closing.result c.if-ne.ensures c.closing.ensures))

pub returns-then-ne-clause-reads : goal.returns-then-ne-clause-reads
returns-then-ne-clause-reads c s vs =
    rw (c.new-names.ensures, add-zero) (c.in_ok-take.ensures.takes (names (name_list c.args.list) c.args.beside) (behind_list (name_list c.args.list) c.args.beside) (begun_behind (name_list c.args.list)) s (of_names [] ∷ vs) (sequences.names_close (name_list c.args.list) c.args.beside c.peek.result (first c.args.tokens.now) c.peek.ensures c.closing.result c.if-ne.ensures c.closing.ensures))

pub returns-in_err-listed-clause-reads : goal.returns-in_err-listed-clause-reads
returns-in_err-listed-clause-reads c s vs =
    let p = err_from_is_err_and c.from_residual-in_err-listed.result c.from_residual-in_err-listed.ensures.1 in
    rw (p.1, p.2) (fails_from _ _ _
    (sequences.names_first c.args.tokens.now (name_list c.args.list) c.args.beside c.peek.result s (of_names [] ∷ vs) c.peek.ensures c.if-ne.ensures)
    (c.in_err-listed.ensures.reads (make name_made ∷ more_names (name_list c.args.list) (c.args.beside + 1) ∷ s) (of_names [] ∷ vs)))

pub more-init : goal.more-init
more-init c = record {
  reads = λ s vs. rw (c.in_ok-push.ensures.ok, c.new-names.ensures) (sequences.names_first c.args.tokens.now (name_list c.args.list) c.args.beside c.peek.result s (of_names [] ∷ vs) c.peek.ensures c.if-ne.ensures
      ∙ c.in_ok-listed.ensures.reads (make name_made ∷ more_names (name_list c.args.list) (c.args.beside + 1) ∷ s) (of_names [] ∷ vs)
      ∙ makes _ (more_names (name_list c.args.list) (c.args.beside + 1) ∷ s) (of_name c.in_ok-listed.field-0 ∷ of_names [] ∷ vs) name_made refl);
  shorter = c.in_ok-listed.ensures.shorter;
  room = rw (c.in_ok-push.ensures.ok, c.new-names.ensures) (omega (arith, c.in_ok-listed.ensures.room));
}

pub returns-in_err-take-2-clause-reads : goal.returns-in_err-take-2-clause-reads
returns-in_err-take-2-clause-reads c s vs =
    let p = err_from_is_err_and c.from_residual-in_err-take-2.result c.from_residual-in_err-take-2.ensures.1 in
    rw (p.1, p.2) (fails_from _ _ _
    (c.more.invariant.reads s vs)
    (c.in_err-take-2.ensures.takes (more_names (name_list c.args.list) (c.args.beside + length c.more.names)) (listed (name_list c.args.list) (c.args.beside + length c.more.names) ∷ make name_made ∷ more_names (name_list c.args.list) ((c.args.beside + length c.more.names) + 1) ∷ []) [] s (of_names c.more.names ∷ vs) (sequences.more_comma (name_list c.args.list) (c.args.beside + length c.more.names) c.peek-in-more.result (first c.more.tokens) c.peek-in-more.ensures c.more-test.ensures)))

pub returns-in_err-listed-2-clause-reads : goal.returns-in_err-listed-2-clause-reads
returns-in_err-listed-2-clause-reads c s vs =
    let p = err_from_is_err_and c.from_residual-in_err-listed-2.result c.from_residual-in_err-listed-2.ensures.1 in
    rw (p.1, p.2) (fails_from _ _ _
    (c.more.invariant.reads s vs
    ∙ c.in_ok-take-2.ensures.takes (more_names (name_list c.args.list) (c.args.beside + length c.more.names)) (listed (name_list c.args.list) (c.args.beside + length c.more.names) ∷ make name_made ∷ more_names (name_list c.args.list) ((c.args.beside + length c.more.names) + 1) ∷ []) [] s (of_names c.more.names ∷ vs) (sequences.more_comma (name_list c.args.list) (c.args.beside + length c.more.names) c.peek-in-more.result (first c.more.tokens) c.peek-in-more.ensures c.more-test.ensures)
    ∙ ap (λ m. run c.take-in-more.new.tokens (listed (name_list c.args.list) (c.args.beside + m) ∷ make name_made ∷ more_names (name_list c.args.list) ((c.args.beside + length c.more.names) + 1) ∷ s) (of_names c.more.names ∷ vs)) (sym c.len.ensures))
    (c.in_err-listed-2.ensures.reads (make name_made ∷ more_names (name_list c.args.list) ((c.args.beside + length c.more.names) + 1) ∷ s) (of_names c.more.names ∷ vs)))

pub more-preserved : goal.more-preserved
more-preserved c =
    let count = length-append c.more.names (c.in_ok-listed-2.field-0 ∷ []) in
    record {
      reads = λ s vs. rw (c.in_ok-push-2.ensures.ok, count) (c.more.invariant.reads s vs
          ∙ c.in_ok-take-2.ensures.takes (more_names (name_list c.args.list) (c.args.beside + length c.more.names)) (listed (name_list c.args.list) (c.args.beside + length c.more.names) ∷ make name_made ∷ more_names (name_list c.args.list) ((c.args.beside + length c.more.names) + 1) ∷ []) [] s (of_names c.more.names ∷ vs) (sequences.more_comma (name_list c.args.list) (c.args.beside + length c.more.names) c.peek-in-more.result (first c.more.tokens) c.peek-in-more.ensures c.more-test.ensures)
          ∙ ap (λ m. run c.take-in-more.new.tokens (listed (name_list c.args.list) (c.args.beside + m) ∷ make name_made ∷ more_names (name_list c.args.list) ((c.args.beside + length c.more.names) + 1) ∷ s) (of_names c.more.names ∷ vs)) (sym c.len.ensures)
          ∙ c.in_ok-listed-2.ensures.reads (make name_made ∷ more_names (name_list c.args.list) ((c.args.beside + length c.more.names) + 1) ∷ s) (of_names c.more.names ∷ vs)
          ∙ makes _ (more_names (name_list c.args.list) ((c.args.beside + length c.more.names) + 1) ∷ s) (of_name c.in_ok-listed-2.field-0 ∷ of_names c.more.names ∷ vs) name_made refl
          ∙ ap (λ m. run c.listed-in-more.new.tokens (more_names (name_list c.args.list) m ∷ s) (of_names (c.more.names ++ c.in_ok-listed-2.field-0 ∷ []) ∷ vs)) (sequences.one_more c.args.beside (length c.more.names)));
      shorter = omega (arith, c.in_ok-listed-2.ensures.shorter, c.in_ok-take-2.ensures.shorter, c.more.invariant.shorter);
      room = rw (c.in_ok-push-2.ensures.ok, count) (omega (arith, c.in_ok-listed-2.ensures.room, c.len.ensures));
    }

pub returns-in_err-take-3-clause-reads : goal.returns-in_err-take-3-clause-reads
returns-in_err-take-3-clause-reads c s vs =
    let p = err_from_is_err_and c.from_residual-in_err-take-3.result c.from_residual-in_err-take-3.ensures.1 in
    rw (p.1, p.2) (fails_from _ _ _
    (c.more.invariant.reads s vs)
    (c.in_err-take-3.ensures.takes (more_names (name_list c.args.list) (c.args.beside + length c.more.names)) (behind_list (name_list c.args.list) (c.args.beside + length c.more.names)) (begun_behind (name_list c.args.list)) s (of_names c.more.names ∷ vs) (sequences.more_close (name_list c.args.list) (c.args.beside + length c.more.names) c.peek-in-more.result (first c.more.tokens) c.peek-in-more.ensures c.closing-2.result c.more-test.ensures c.closing-2.ensures)))

pub returns-clause-reads : goal.returns-clause-reads
returns-clause-reads c s vs =
    c.more.invariant.reads s vs
    ∙ c.in_ok-take-3.ensures.takes (more_names (name_list c.args.list) (c.args.beside + length c.more.names)) (behind_list (name_list c.args.list) (c.args.beside + length c.more.names)) (begun_behind (name_list c.args.list)) s (of_names c.more.names ∷ vs) (sequences.more_close (name_list c.args.list) (c.args.beside + length c.more.names) c.peek-in-more.result (first c.more.tokens) c.peek-in-more.ensures c.closing-2.result c.more-test.ensures c.closing-2.ensures)
