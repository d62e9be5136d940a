use Rattle.std.proofs.Common.{◌∷◌, [], false, length, ap, sym, ◌∙◌, arith, length-append}
use Rattle.psac_slots.specs.Branches.{stem}
use Rattle.psac_slots.proofs.Turns.{stem_push}
use Rattle.psac_fork.proofs.tables.Pass.join.Goals as goal

pub invariant_of-result : goal.invariant_of-result
invariant_of-result c =
    let j = ap (λ v. length v.claims.branch) c.join.ensures.joined in
    let s = c.requires.sides in
    let e = ap length (ap stem s.1.0 ∙ stem_push s.0 false) in
    let l = ap length s.1.0 ∙ length-append s.0 (false ∷ []) in
    let d = c.args.left.deep in
    let v = ap (λ v. v.claims.branch) c.join.ensures.joined in
    let r = ap (λ v. v.claims.branch) c.join-2.ensures.joined in
    let m = ap (λ v. v.claims.branch) c.join-3.ensures.joined in
    record {
      deep = omega (arith, j, e, l, d);
      beside = r ∙ (ap stem c.args.left.beside ∙ sym v);
      beside_marks = m ∙ (ap stem c.args.left.beside_marks ∙ sym v);
    }
