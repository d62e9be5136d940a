use Rattle.std.proofs.Common.{◌++◌, map, ap, ◌∙◌}
use Rattle.std.specs.Prelude.{codes}
use Rattle.psac_spelling.specs.Canonical.{expr_text, item_text, joined, body_text, stmt_text, content_text}
use Rattle.psac_spelling.proofs.Layers.{stmt_is, read_text, if_text, par_text}
use Rattle.psac_print.proofs.Pieces.{two, three, four}
use Rattle.psac_print.proofs.statement.+body.Goals as goal

pub push_stmt-returns : goal.push_stmt-returns
push_stmt-returns t c =
    let p = c.args.program.now in
    let m = c.args.margin.now in
    three c.args.text.now.items c.extend_from_slice.new.self.items c.push_content.new.text.items c.push.new.self.items m (content_text p c.args.stmt.now m) (codes "\n") (stmt_text p c.args.stmt.now m)
    c.in_ok-extend_from_slice.ensures.items c.in_ok-push_content.ensures c.in_ok-push.ensures.items (stmt_is p c.args.stmt.now m)

pub push_content-returns-in_ok-push_body-in-Read : goal.push_content-returns-in_ok-push_body-in-Read
push_content-returns-in_ok-push_body-in-Read t c =
    let p = c.args.program.now in
    let m = c.args.margin.now in
    two c.args.text.now.items c.push_reads.new.text.items c.push_body.new.text.items (codes "read " ++ joined (map (item_text p) c.in-Read.items) ++ codes " ") (body_text (map (stmt_text p) c.in-Read.body) m) (content_text p c.args.stmt.now m)
    (rw c.as_slice.ensures at c.in_ok-push_reads-in-Read.ensures) (rw c.as_slice-in-Read.ensures at c.in_ok-push_body-in-Read.ensures)
    (ap (λ s. content_text p s m) c.in-Read.is ∙ read_text p c.in-Read.line c.in-Read.block c.in-Read.items c.in-Read.body m)

pub push_content-returns-in_ok-push_body-in-If-2 : goal.push_content-returns-in_ok-push_body-in-If-2
push_content-returns-in_ok-push_body-in-If-2 t c =
    let p = c.args.program.now in
    let m = c.args.margin.now in
    four c.args.text.now.items c.push_cond.new.text.items c.push_body-in-If.new.text.items c.extend_from_slice.new.self.items c.push_body-in-If-2.new.text.items
    (codes "if " ++ expr_text p c.in-If.cond ++ codes " ") (body_text (map (stmt_text p) c.in-If.yes) m) (codes " else ") (body_text (map (stmt_text p) c.in-If.no) m) (content_text p c.args.stmt.now m)
    c.in_ok-push_cond-in-If.ensures (rw c.as_slice-in-If.ensures at c.in_ok-push_body-in-If.ensures) c.in_ok-extend_from_slice-in-If.ensures.items (rw c.as_slice-in-If-2.ensures at c.in_ok-push_body-in-If-2.ensures)
    (ap (λ s. content_text p s m) c.in-If.is ∙ if_text p c.in-If.line c.in-If.cond c.in-If.yes c.in-If.no m)

pub push_content-returns-in_ok-push_body-in-Par-2 : goal.push_content-returns-in_ok-push_body-in-Par-2
push_content-returns-in_ok-push_body-in-Par-2 t c =
    let p = c.args.program.now in
    let m = c.args.margin.now in
    four c.args.text.now.items c.extend_from_slice-in-Par.new.self.items c.push_body-in-Par.new.text.items c.push.new.self.items c.push_body-in-Par-2.new.text.items
    (codes "par ") (body_text (map (stmt_text p) c.in-Par.left) m) (codes " ") (body_text (map (stmt_text p) c.in-Par.right) m) (content_text p c.args.stmt.now m)
    c.in_ok-extend_from_slice-in-Par.ensures.items (rw c.as_slice-in-Par.ensures at c.in_ok-push_body-in-Par.ensures) c.in_ok-push-in-Par.ensures.items (rw c.as_slice-in-Par-2.ensures at c.in_ok-push_body-in-Par-2.ensures)
    (ap (λ s. content_text p s m) c.in-Par.is ∙ par_text p c.in-Par.line c.in-Par.left c.in-Par.right m)
