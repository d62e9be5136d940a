use Rattle.std.proofs.Common.{◌≡◌, ◌++◌, map, arith, sym, ap, ◌∙◌}
use Rattle.std.specs.Prelude.{codes}
use Rattle.std.proofs.lemmas.Int.{ints, to_z-of_z}
use Rattle.std.specs.Fmt.{signed_decimal}
use Rattle.psac_ops.specs.Written.{name_of}
use Rattle.psac_spelling.specs.Canonical.{expr_text, applied}
use Rattle.psac_spelling.proofs.Layers.{int_text, cell_text}
use Rattle.psac_print.proofs.Pieces.{five, stands}
use Rattle.psac_print.proofs.expression.+expression.Goals as goal

pub push_expr-returns-in_ok-push_int-in-Int : goal.push_expr-returns-in_ok-push_int-in-Int
push_expr-returns-in_ok-push_int-in-Int t c =
    let is : expr_text c.args.program.now c.args.value.now ≡ signed_decimal c.in-Int.number = ap (expr_text c.args.program.now) c.in-Int.is ∙ int_text c.args.program.now c.in-Int.number in
    grind (arith, ints, to_z-of_z, is, c.in_ok-push_int-in-Int.ensures.ok)

pub push_expr-returns-in_ok-push-in-Cell : goal.push_expr-returns-in_ok-push-in-Cell
push_expr-returns-in_ok-push-in-Cell t c =
    let p = c.args.program.now in
    five c.args.text.now.items c.extend_from_slice-in-Cell.new.self.items c.push_expr.new.text.items c.extend_from_slice-in-Cell-2.new.self.items c.push_expr-in-Cell.new.text.items c.push.new.self.items
    (codes "cell(") (expr_text p c.in-Cell.row) (codes ", ") (expr_text p c.in-Cell.column) (codes ")") (expr_text p c.args.value.now)
    c.in_ok-extend_from_slice-in-Cell.ensures.items (rw c.get.ensures at c.in_ok-push_expr-in-Cell.ensures) c.in_ok-extend_from_slice-in-Cell-2.ensures.items (rw c.get-in-Cell.ensures at c.in_ok-push_expr-in-Cell-2.ensures) c.in_ok-push-in-Cell.ensures.items
    (ap (expr_text p) c.in-Cell.is ∙ cell_text p c.in-Cell.row c.in-Cell.column)

pub push_applied-returns : goal.push_applied-returns
push_applied-returns t c =
    let f = expr_text c.args.program.now in
    five c.args.text.now.items c.push.new.self.items c.push_expr.new.text.items c.push_spaced.new.text.items c.push_expr-2.new.text.items c.push-2.new.self.items
    (codes "(") (f c.index-args-0.result) (codes " " ++ name_of c.args.op ++ codes " ") (f c.index-args-1.result) (codes ")") (applied c.args.op (map f c.args.args.now))
    c.in_ok-push.ensures.items c.in_ok-push_expr.ensures (rw c.spelling-name.ensures at c.in_ok-push_spaced.ensures) c.in_ok-push_expr-2.ensures c.in_ok-push-2.ensures.items
    (stands c.args.op f c.args.args.now c.index-args-0.result c.index-args-1.result (sym c.stands_between.ensures ∙ c.if-not-stands_between.false) c.index-args-0.is c.index-args-1.is)
