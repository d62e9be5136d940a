use Rattle.std.proofs.Common.{◌+◌, ◌∙◌, ap, sym, refl, ◌∷◌, [], ◌++◌, length, add-zero}
use Rattle.std.proofs.lemmas.Result.{err_from_is_err_and}
use Rattle.psac_tokens.specs.declared.token.Kind.TheVariants.{LeftBrace, RightBrace, Else, Let, New, Write, Read, If, Par, Call}
use Rattle.psac_grammar.specs.Machine.{make, mark, take, statements, block, of_items, of_stmts, read_made, if_made, par_made, first, run}
use Rattle.psac_lang.specs.Reads.{operand_item, bound_by, taken}
use Rattle.psac_lang.proofs.Moves.{fails_from, goes_from, makes}
use Rattle.psac_lang.proofs.Sequences as sequences
use Rattle.psac_lang.proofs.Bodies as bodies
use Rattle.psac_lang.proofs.statement.+body.Goals as goal

pub block-returns-in_err-take-clause-reads : goal.block-returns-in_err-take-clause-reads
block-returns-in_err-take-clause-reads t c s vs =
    let p = err_from_is_err_and c.from_residual.result c.from_residual.ensures.1 in
    rw (p.1, p.2) (c.in_err-take.ensures.takes (block c.args.bodies c.args.names) (statements (c.args.bodies + 1) c.args.names 0 ∷ mark RightBrace ∷ []) (of_stmts [] ∷ []) s vs (sequences.block_moves c.args.bodies c.args.names (first c.args.tokens.now) ∙ ap (λ m. taken (first c.args.tokens.now).kind LeftBrace m (statements (c.args.bodies + 1) c.args.names 0 ∷ mark RightBrace ∷ []) (of_stmts [] ∷ [])) (sym c.below.ensures.value)))

pub block-returns-in_err-body-clause-reads : goal.block-returns-in_err-body-clause-reads
block-returns-in_err-body-clause-reads t c s vs =
    let p = err_from_is_err_and c.from_residual-in_err-body.result c.from_residual-in_err-body.ensures.1 in
    rw (p.1, p.2) (fails_from _ _ _
    (c.in_ok-take.ensures.takes (block c.args.bodies c.args.names) (statements (c.args.bodies + 1) c.args.names 0 ∷ mark RightBrace ∷ []) (of_stmts [] ∷ []) s vs (sequences.block_moves c.args.bodies c.args.names (first c.args.tokens.now) ∙ ap (λ m. taken (first c.args.tokens.now).kind LeftBrace m (statements (c.args.bodies + 1) c.args.names 0 ∷ mark RightBrace ∷ []) (of_stmts [] ∷ [])) (sym c.below.ensures.value)))
    (c.in_err-body.ensures.reads s vs))

pub block-returns-clause-reads : goal.block-returns-clause-reads
block-returns-clause-reads t c s vs =
    c.in_ok-take.ensures.takes (block c.args.bodies c.args.names) (statements (c.args.bodies + 1) c.args.names 0 ∷ mark RightBrace ∷ []) (of_stmts [] ∷ []) s vs (sequences.block_moves c.args.bodies c.args.names (first c.args.tokens.now) ∙ ap (λ m. taken (first c.args.tokens.now).kind LeftBrace m (statements (c.args.bodies + 1) c.args.names 0 ∷ mark RightBrace ∷ []) (of_stmts [] ∷ [])) (sym c.below.ensures.value))
    ∙ c.in_ok-body.ensures.reads s vs

pub body-returns-clause-reads : goal.body-returns-clause-reads
body-returns-clause-reads t c s vs =
    c.stmts.invariant.reads s vs
    ∙ bodies.statements_end c.stmts.tokens c.args.bodies c.stmts.scope (length c.stmts.stmts) c.peek.result (mark RightBrace ∷ s) (of_stmts c.stmts.stmts ∷ vs) c.peek.ensures (sym c.begins.ensures ∙ c.stmts-test.false)
    ∙ c.in_ok-expect.ensures.reads s (of_stmts c.stmts.stmts ∷ vs)

pub body-returns-in_err-expect-clause-reads : goal.body-returns-in_err-expect-clause-reads
body-returns-in_err-expect-clause-reads t c s vs =
    let p = err_from_is_err_and c.from_residual-in_err-expect.result c.from_residual-in_err-expect.ensures.1 in
    rw (p.1, p.2) (fails_from _ _ _
    (c.stmts.invariant.reads s vs
    ∙ bodies.statements_end c.stmts.tokens c.args.bodies c.stmts.scope (length c.stmts.stmts) c.peek.result (mark RightBrace ∷ s) (of_stmts c.stmts.stmts ∷ vs) c.peek.ensures (sym c.begins.ensures ∙ c.stmts-test.false))
    (c.in_err-expect.ensures.reads s (of_stmts c.stmts.stmts ∷ vs)))

pub if_rest-returns-clause-adds : goal.if_rest-returns-clause-adds
if_rest-returns-clause-adds t c so_far s vs =
    c.in_ok-cond.ensures.reads (block c.args.bodies c.args.names ∷ mark Else ∷ block c.args.bodies c.args.names ∷ make (if_made c.args.line) ∷ s) (of_stmts so_far ∷ vs)
    ∙ c.in_ok-yes.ensures.reads (mark Else ∷ block c.args.bodies c.args.names ∷ make (if_made c.args.line) ∷ s) _
    ∙ c.in_ok-expect.ensures.reads (block c.args.bodies c.args.names ∷ make (if_made c.args.line) ∷ s) _
    ∙ c.in_ok-no.ensures.reads (make (if_made c.args.line) ∷ s) _
    ∙ makes _ s (of_stmts c.in_ok-no.no ∷ of_stmts c.in_ok-yes.yes ∷ operand_item c.in_ok-cond.cond ∷ of_stmts so_far ∷ vs) (if_made c.args.line) refl

pub par_rest-returns-clause-adds : goal.par_rest-returns-clause-adds
par_rest-returns-clause-adds t c so_far s vs =
    c.in_ok-left.ensures.reads (block c.args.bodies c.args.names ∷ make (par_made c.args.line) ∷ s) (of_stmts so_far ∷ vs)
    ∙ c.in_ok-right.ensures.reads (make (par_made c.args.line) ∷ s) _
    ∙ makes _ s (of_stmts c.in_ok-right.right ∷ of_stmts c.in_ok-left.left ∷ of_stmts so_far ∷ vs) (par_made c.args.line) refl

pub read_rest-returns-in_err-body-clause-adds : goal.read_rest-returns-in_err-body-clause-adds
read_rest-returns-in_err-body-clause-adds t c so_far s vs =
    let p = err_from_is_err_and c.from_residual-in_err-body.result c.from_residual-in_err-body.ensures.1 in
    rw (p.1, p.2) (fails_from _ _ _
    (c.in_ok-items.ensures.reads c.args.bodies (make (read_made c.args.line c.args.index) ∷ s) (of_stmts so_far ∷ vs)
    ∙ ap (λ m. run c.items.new.tokens (block c.args.bodies (c.args.names + m) ∷ make (read_made c.args.line c.args.index) ∷ s) (of_items c.in_ok-items.items ∷ of_stmts so_far ∷ vs)) (sym c.len.ensures))
    (c.in_err-body.ensures.reads (make (read_made c.args.line c.args.index) ∷ s) (of_items c.in_ok-items.items ∷ of_stmts so_far ∷ vs)))

pub read_rest-returns-clause-adds : goal.read_rest-returns-clause-adds
read_rest-returns-clause-adds t c so_far s vs =
    rw (c.read_of.ensures) (c.in_ok-items.ensures.reads c.args.bodies (make (read_made c.args.line c.args.index) ∷ s) (of_stmts so_far ∷ vs)
    ∙ ap (λ m. run c.items.new.tokens (block c.args.bodies (c.args.names + m) ∷ make (read_made c.args.line c.args.index) ∷ s) (of_items c.in_ok-items.items ∷ of_stmts so_far ∷ vs)) (sym c.len.ensures)
    ∙ c.in_ok-body.ensures.reads (make (read_made c.args.line c.args.index) ∷ s) (of_items c.in_ok-items.items ∷ of_stmts so_far ∷ vs)
    ∙ makes _ s (of_stmts c.in_ok-body.body ∷ of_items c.in_ok-items.items ∷ of_stmts so_far ∷ vs) (read_made c.args.line c.args.index) refl)

pub statement-returns-in_err-pass-clause-adds : goal.statement-returns-in_err-pass-clause-adds
statement-returns-in_err-pass-clause-adds t c so_far s vs =
    let p = err_from_is_err_and c.from_residual.result c.from_residual.ensures.1 in
    rw (p.1, p.2) (c.in_err-pass.ensures.passes (statements c.args.bodies c.args.names c.args.count) (bodies.rest_of c.peek-token.result.kind c.peek-token.result c.args.bodies c.args.names ++ statements c.args.bodies (bodies.bound_then c.peek-token.result.kind c.args.names) (c.args.count + 1) ∷ []) (bodies.items_of c.peek-token.result.kind) s (of_stmts so_far ∷ vs) (bodies.statement_moves c.args.bodies c.args.names c.args.count c.peek-token.result (first c.args.tokens.now) c.peek-token.ensures c.requires.begins ∙ ap (λ m. take m (bodies.rest_of c.peek-token.result.kind c.peek-token.result c.args.bodies c.args.names ++ statements c.args.bodies (bodies.bound_then c.peek-token.result.kind c.args.names) (c.args.count + 1) ∷ []) (bodies.items_of c.peek-token.result.kind)) (sym c.below.ensures.value)))

pub statement-returns-in-Let-clause-adds : goal.statement-returns-in-Let-clause-adds
statement-returns-in-Let-clause-adds t c so_far s vs =
    bodies.same_scope c.let_rest.result _ _ c.args.bodies (c.args.names + 1) _ _ _ s _ _ (ap (λ k. c.args.names + bound_by k) (sym (ap (λ x. x.kind) (sym c.peek-token.ensures) ∙ c.in-Let.is)))
    (goes_from c.let_rest.result _ _ _ _ _ _ _ _ _ (bodies.begins_as Let c.peek-token.result c.args.bodies c.args.names c.args.count c.args.tokens.now c.pass.new.tokens s (of_stmts so_far ∷ vs) c.in-Let.is (c.in_ok-pass.ensures.passes (statements c.args.bodies c.args.names c.args.count) (bodies.rest_of c.peek-token.result.kind c.peek-token.result c.args.bodies c.args.names ++ statements c.args.bodies (bodies.bound_then c.peek-token.result.kind c.args.names) (c.args.count + 1) ∷ []) (bodies.items_of c.peek-token.result.kind) s (of_stmts so_far ∷ vs) (bodies.statement_moves c.args.bodies c.args.names c.args.count c.peek-token.result (first c.args.tokens.now) c.peek-token.ensures c.requires.begins ∙ ap (λ m. take m (bodies.rest_of c.peek-token.result.kind c.peek-token.result c.args.bodies c.args.names ++ statements c.args.bodies (bodies.bound_then c.peek-token.result.kind c.args.names) (c.args.count + 1) ∷ []) (bodies.items_of c.peek-token.result.kind)) (sym c.below.ensures.value)))) (c.let_rest.ensures.adds so_far (statements c.args.bodies (c.args.names + 1) (c.args.count + 1) ∷ s) vs))

pub statement-returns-in-New-clause-adds : goal.statement-returns-in-New-clause-adds
statement-returns-in-New-clause-adds t c so_far s vs =
    bodies.same_scope c.new_rest.result _ _ c.args.bodies (c.args.names + 1) _ _ _ s _ _ (ap (λ k. c.args.names + bound_by k) (sym (ap (λ x. x.kind) (sym c.peek-token.ensures) ∙ c.in-New.is)))
    (goes_from c.new_rest.result _ _ _ _ _ _ _ _ _ (bodies.begins_as New c.peek-token.result c.args.bodies c.args.names c.args.count c.args.tokens.now c.pass.new.tokens s (of_stmts so_far ∷ vs) c.in-New.is (c.in_ok-pass.ensures.passes (statements c.args.bodies c.args.names c.args.count) (bodies.rest_of c.peek-token.result.kind c.peek-token.result c.args.bodies c.args.names ++ statements c.args.bodies (bodies.bound_then c.peek-token.result.kind c.args.names) (c.args.count + 1) ∷ []) (bodies.items_of c.peek-token.result.kind) s (of_stmts so_far ∷ vs) (bodies.statement_moves c.args.bodies c.args.names c.args.count c.peek-token.result (first c.args.tokens.now) c.peek-token.ensures c.requires.begins ∙ ap (λ m. take m (bodies.rest_of c.peek-token.result.kind c.peek-token.result c.args.bodies c.args.names ++ statements c.args.bodies (bodies.bound_then c.peek-token.result.kind c.args.names) (c.args.count + 1) ∷ []) (bodies.items_of c.peek-token.result.kind)) (sym c.below.ensures.value)))) (c.new_rest.ensures.adds so_far (statements c.args.bodies (c.args.names + 1) (c.args.count + 1) ∷ s) vs))

pub statement-returns-in-Write-clause-adds : goal.statement-returns-in-Write-clause-adds
statement-returns-in-Write-clause-adds t c so_far s vs =
    bodies.same_scope c.write_rest.result _ _ c.args.bodies c.args.names _ _ _ s _ _ (sym (add-zero c.args.names) ∙ ap (λ k. c.args.names + bound_by k) (sym (ap (λ x. x.kind) (sym c.peek-token.ensures) ∙ c.in-Write.is)))
    (goes_from c.write_rest.result _ _ _ _ _ _ _ _ _ (bodies.begins_as Write c.peek-token.result c.args.bodies c.args.names c.args.count c.args.tokens.now c.pass.new.tokens s (of_stmts so_far ∷ vs) c.in-Write.is (c.in_ok-pass.ensures.passes (statements c.args.bodies c.args.names c.args.count) (bodies.rest_of c.peek-token.result.kind c.peek-token.result c.args.bodies c.args.names ++ statements c.args.bodies (bodies.bound_then c.peek-token.result.kind c.args.names) (c.args.count + 1) ∷ []) (bodies.items_of c.peek-token.result.kind) s (of_stmts so_far ∷ vs) (bodies.statement_moves c.args.bodies c.args.names c.args.count c.peek-token.result (first c.args.tokens.now) c.peek-token.ensures c.requires.begins ∙ ap (λ m. take m (bodies.rest_of c.peek-token.result.kind c.peek-token.result c.args.bodies c.args.names ++ statements c.args.bodies (bodies.bound_then c.peek-token.result.kind c.args.names) (c.args.count + 1) ∷ []) (bodies.items_of c.peek-token.result.kind)) (sym c.below.ensures.value)))) (c.write_rest.ensures.adds so_far (statements c.args.bodies c.args.names (c.args.count + 1) ∷ s) vs))

pub statement-returns-in-Read-clause-adds : goal.statement-returns-in-Read-clause-adds
statement-returns-in-Read-clause-adds t c so_far s vs =
    bodies.same_scope c.read_rest.result _ _ c.args.bodies c.args.names _ _ _ s _ _ (sym (add-zero c.args.names) ∙ ap (λ k. c.args.names + bound_by k) (sym (ap (λ x. x.kind) (sym c.peek-token.ensures) ∙ c.in-Read.is)))
    (goes_from c.read_rest.result _ _ _ _ _ _ _ _ _ (bodies.begins_as Read c.peek-token.result c.args.bodies c.args.names c.args.count c.args.tokens.now c.pass.new.tokens s (of_stmts so_far ∷ vs) c.in-Read.is (c.in_ok-pass.ensures.passes (statements c.args.bodies c.args.names c.args.count) (bodies.rest_of c.peek-token.result.kind c.peek-token.result c.args.bodies c.args.names ++ statements c.args.bodies (bodies.bound_then c.peek-token.result.kind c.args.names) (c.args.count + 1) ∷ []) (bodies.items_of c.peek-token.result.kind) s (of_stmts so_far ∷ vs) (bodies.statement_moves c.args.bodies c.args.names c.args.count c.peek-token.result (first c.args.tokens.now) c.peek-token.ensures c.requires.begins ∙ ap (λ m. take m (bodies.rest_of c.peek-token.result.kind c.peek-token.result c.args.bodies c.args.names ++ statements c.args.bodies (bodies.bound_then c.peek-token.result.kind c.args.names) (c.args.count + 1) ∷ []) (bodies.items_of c.peek-token.result.kind)) (sym c.below.ensures.value)))) (c.read_rest.ensures.adds so_far (statements c.args.bodies c.args.names (c.args.count + 1) ∷ s) vs))

pub statement-returns-in-If-clause-adds : goal.statement-returns-in-If-clause-adds
statement-returns-in-If-clause-adds t c so_far s vs =
    bodies.same_scope c.if_rest.result _ _ c.args.bodies c.args.names _ _ _ s _ _ (sym (add-zero c.args.names) ∙ ap (λ k. c.args.names + bound_by k) (sym (ap (λ x. x.kind) (sym c.peek-token.ensures) ∙ c.in-If.is)))
    (goes_from c.if_rest.result _ _ _ _ _ _ _ _ _ (bodies.begins_as If c.peek-token.result c.args.bodies c.args.names c.args.count c.args.tokens.now c.pass.new.tokens s (of_stmts so_far ∷ vs) c.in-If.is (c.in_ok-pass.ensures.passes (statements c.args.bodies c.args.names c.args.count) (bodies.rest_of c.peek-token.result.kind c.peek-token.result c.args.bodies c.args.names ++ statements c.args.bodies (bodies.bound_then c.peek-token.result.kind c.args.names) (c.args.count + 1) ∷ []) (bodies.items_of c.peek-token.result.kind) s (of_stmts so_far ∷ vs) (bodies.statement_moves c.args.bodies c.args.names c.args.count c.peek-token.result (first c.args.tokens.now) c.peek-token.ensures c.requires.begins ∙ ap (λ m. take m (bodies.rest_of c.peek-token.result.kind c.peek-token.result c.args.bodies c.args.names ++ statements c.args.bodies (bodies.bound_then c.peek-token.result.kind c.args.names) (c.args.count + 1) ∷ []) (bodies.items_of c.peek-token.result.kind)) (sym c.below.ensures.value)))) (c.if_rest.ensures.adds so_far (statements c.args.bodies c.args.names (c.args.count + 1) ∷ s) vs))

pub statement-returns-in-Par-clause-adds : goal.statement-returns-in-Par-clause-adds
statement-returns-in-Par-clause-adds t c so_far s vs =
    bodies.same_scope c.par_rest.result _ _ c.args.bodies c.args.names _ _ _ s _ _ (sym (add-zero c.args.names) ∙ ap (λ k. c.args.names + bound_by k) (sym (ap (λ x. x.kind) (sym c.peek-token.ensures) ∙ c.in-Par.is)))
    (goes_from c.par_rest.result _ _ _ _ _ _ _ _ _ (bodies.begins_as Par c.peek-token.result c.args.bodies c.args.names c.args.count c.args.tokens.now c.pass.new.tokens s (of_stmts so_far ∷ vs) c.in-Par.is (c.in_ok-pass.ensures.passes (statements c.args.bodies c.args.names c.args.count) (bodies.rest_of c.peek-token.result.kind c.peek-token.result c.args.bodies c.args.names ++ statements c.args.bodies (bodies.bound_then c.peek-token.result.kind c.args.names) (c.args.count + 1) ∷ []) (bodies.items_of c.peek-token.result.kind) s (of_stmts so_far ∷ vs) (bodies.statement_moves c.args.bodies c.args.names c.args.count c.peek-token.result (first c.args.tokens.now) c.peek-token.ensures c.requires.begins ∙ ap (λ m. take m (bodies.rest_of c.peek-token.result.kind c.peek-token.result c.args.bodies c.args.names ++ statements c.args.bodies (bodies.bound_then c.peek-token.result.kind c.args.names) (c.args.count + 1) ∷ []) (bodies.items_of c.peek-token.result.kind)) (sym c.below.ensures.value)))) (c.par_rest.ensures.adds so_far (statements c.args.bodies c.args.names (c.args.count + 1) ∷ s) vs))

pub statement-returns-in-Call-clause-adds : goal.statement-returns-in-Call-clause-adds
statement-returns-in-Call-clause-adds t c so_far s vs =
    bodies.same_scope c.call_rest.result _ _ c.args.bodies c.args.names _ _ _ s _ _ (sym (add-zero c.args.names) ∙ ap (λ k. c.args.names + bound_by k) (sym (ap (λ x. x.kind) (sym c.peek-token.ensures) ∙ c.in-Call.is)))
    (goes_from c.call_rest.result _ _ _ _ _ _ _ _ _ (bodies.begins_as Call c.peek-token.result c.args.bodies c.args.names c.args.count c.args.tokens.now c.pass.new.tokens s (of_stmts so_far ∷ vs) c.in-Call.is (c.in_ok-pass.ensures.passes (statements c.args.bodies c.args.names c.args.count) (bodies.rest_of c.peek-token.result.kind c.peek-token.result c.args.bodies c.args.names ++ statements c.args.bodies (bodies.bound_then c.peek-token.result.kind c.args.names) (c.args.count + 1) ∷ []) (bodies.items_of c.peek-token.result.kind) s (of_stmts so_far ∷ vs) (bodies.statement_moves c.args.bodies c.args.names c.args.count c.peek-token.result (first c.args.tokens.now) c.peek-token.ensures c.requires.begins ∙ ap (λ m. take m (bodies.rest_of c.peek-token.result.kind c.peek-token.result c.args.bodies c.args.names ++ statements c.args.bodies (bodies.bound_then c.peek-token.result.kind c.args.names) (c.args.count + 1) ∷ []) (bodies.items_of c.peek-token.result.kind)) (sym c.below.ensures.value)))) (c.call_rest.ensures.adds so_far (statements c.args.bodies c.args.names (c.args.count + 1) ∷ s) vs))
