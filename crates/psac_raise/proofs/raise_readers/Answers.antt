-- A walk raises each live reader, and ends.
use Rattle.std.proofs.Common.{◌≡◌, ◌<◌, ℕ, List, refl, sym, ap, ◌∙◌, subst, Some, arith}
use Rattle.std.specs.Prelude.{IfSome}
use Rattle.psac_slots.specs.Passes.{Pass}
use Rattle.psac_readers.specs.declared.view.ReadersView.{ReadersView}
use Rattle.psac_readers.specs.Chained.{times}
use Rattle.psac_readers.specs.Passes.{Walks, OnWalk, found}
use Rattle.psac_readers.specs.Steps.{chain_of, set_of, next_live, behind}
use Rattle.psac_raise.specs.Raise.{left_of}
use Rattle.psac_raise.proofs.Going.{Going, going_start, own_link, chain_here, leads_here, going_on, going_shorter, going_end}
use Rattle.psac_raise.proofs.raise_readers.Goals as goal

pub loop-at-init : goal.loop-at-init
loop-at-init c =
    (c.first-at.ensures.table, refl, going_start c.args.sets.now.knows c.first-at.new.pass.knows c.args.m.slot c.args.nodes.now.knows c.first-at.result c.requires.walk c.first-at.ensures.first c.first-at.ensures.once c.first-at.ensures.found)

pub node-node-requires-clause-table : goal.node-node-requires-clause-table
node-node-requires-clause-table c = c.loop-at.invariant.0 ∙ c.requires.of.0

pub node-node-requires-clause-own : goal.node-node-requires-clause-own
node-node-requires-clause-own c =
    own_link c.args.sets.now.knows c.args.m.slot c.args.nodes.now.knows c.loop-at.sets.knows c.loop-at.nodes.knows c.in-Some.link (subst (Going c.args.sets.now.knows c.args.m.slot c.args.nodes.now.knows c.loop-at.sets.knows c.loop-at.nodes.knows) c.in-Some.is c.loop-at.invariant.2)

pub raise-requires-clause-table : goal.raise-requires-clause-table
raise-requires-clause-table c = c.loop-at.invariant.1 ∙ c.requires.of.1

pub raise-requires-clause-path : goal.raise-requires-clause-path
raise-requires-clause-path c =
    let g = subst (Going c.args.sets.now.knows c.args.m.slot c.args.nodes.now.knows c.loop-at.sets.knows c.loop-at.nodes.knows) c.in-Some.is c.loop-at.invariant.2 in
    let low : c.node-node.result.slot < 4294967296 = omega arith in
    leads_here c.args.sets.now.knows c.args.m.slot c.args.nodes.now.knows c.loop-at.sets.knows c.loop-at.nodes.knows c.in-Some.link g c.requires.paths c.node-node.result low c.node-node.ensures.node

pub next-at-requires-clause-table : goal.next-at-requires-clause-table
next-at-requires-clause-table c = ap (λ p. p.table) c.node-node.ensures.same ∙ c.loop-at.invariant.0 ∙ c.requires.of.0

pub next-at-requires-clause-walk : goal.next-at-requires-clause-walk
next-at-requires-clause-walk c =
    let g = subst (Going c.args.sets.now.knows c.args.m.slot c.args.nodes.now.knows c.loop-at.sets.knows c.loop-at.nodes.knows) c.in-Some.is c.loop-at.invariant.2 in
    subst (λ (p : Pass ReadersView). (ls : List ℕ) × Walks p.knows (set_of c.in-Some.link.index p.knows.links) ls × (0 < times c.in-Some.link.index ls)) (sym c.node-node.ensures.same)
    (g.on.chain, subst (λ x. Walks c.loop-at.sets.knows x g.on.chain) (sym g.on.set) g.on.knows, g.on.on)

pub loop-at-smaller : goal.loop-at-smaller
loop-at-smaller c =
    let g = subst (Going c.args.sets.now.knows c.args.m.slot c.args.nodes.now.knows c.loop-at.sets.knows c.loop-at.nodes.knows) c.in-Some.is c.loop-at.invariant.2 in
    let low : c.node-node.result.slot < 4294967296 = omega arith in
    let same = c.next-at.ensures.same ∙ c.node-node.ensures.same in
    let here : chain_of (set_of c.in-Some.link.index c.loop-at.sets.knows.links) c.loop-at.sets.knows.walk ≡ Some g.chain = ap (λ x. chain_of x c.loop-at.sets.knows.walk) g.on.set ∙ chain_here c.args.sets.now.knows c.args.m.slot c.args.nodes.now.knows c.loop-at.sets.knows c.loop-at.nodes.knows c.in-Some.link g in
    let next = subst (λ (p : Pass ReadersView). (ls : List ℕ) → chain_of (set_of c.in-Some.link.index p.knows.links) p.knows.walk ≡ Some ls → found c.next-at.result ≡ next_live p.knows.links (behind c.in-Some.link.index ls)) c.node-node.ensures.same c.next-at.ensures.next g.chain here in
    subst (λ o. left_of (chain_of c.args.m.slot c.next-at.new.pass.knows.walk) c.next-at.result < left_of (chain_of c.args.m.slot c.loop-at.sets.knows.walk) o) (sym c.in-Some.is)
    (going_shorter c.args.sets.now.knows c.args.m.slot c.args.nodes.now.knows c.loop-at.sets.knows c.loop-at.nodes.knows c.in-Some.link g c.requires.paths c.node-node.result low c.node-node.ensures.node c.next-at.new.pass.knows c.next-at.result (ap (λ (p : Pass ReadersView). p.knows) same) next)

pub loop-at-preserved : goal.loop-at-preserved
loop-at-preserved c =
    let g = subst (Going c.args.sets.now.knows c.args.m.slot c.args.nodes.now.knows c.loop-at.sets.knows c.loop-at.nodes.knows) c.in-Some.is c.loop-at.invariant.2 in
    let low : c.node-node.result.slot < 4294967296 = omega arith in
    let same = c.next-at.ensures.same ∙ c.node-node.ensures.same in
    let here : chain_of (set_of c.in-Some.link.index c.loop-at.sets.knows.links) c.loop-at.sets.knows.walk ≡ Some g.chain = ap (λ x. chain_of x c.loop-at.sets.knows.walk) g.on.set ∙ chain_here c.args.sets.now.knows c.args.m.slot c.args.nodes.now.knows c.loop-at.sets.knows c.loop-at.nodes.knows c.in-Some.link g in
    let next = subst (λ (p : Pass ReadersView). (ls : List ℕ) → chain_of (set_of c.in-Some.link.index p.knows.links) p.knows.walk ≡ Some ls → found c.next-at.result ≡ next_live p.knows.links (behind c.in-Some.link.index ls)) c.node-node.ensures.same c.next-at.ensures.next g.chain here in
    let on = subst (λ (p : Pass ReadersView). IfSome c.next-at.result (λ l. OnWalk p.knows (set_of c.in-Some.link.index p.knows.links) l.index)) c.node-node.ensures.same c.next-at.ensures.found in
    let at_set = subst (λ x. IfSome c.next-at.result (λ l. OnWalk c.loop-at.sets.knows x l.index)) g.on.set on in
    let r = c.raise.ensures.raised in (
      ap (λ (p : Pass ReadersView). p.table) same ∙ c.loop-at.invariant.0,
      c.raise.ensures.table ∙ c.loop-at.invariant.1,
      subst (λ (p : Pass ReadersView). Going c.args.sets.now.knows c.args.m.slot c.args.nodes.now.knows p.knows c.raise.new.pass.knows c.next-at.result) (sym same)
          (going_on c.args.sets.now.knows c.args.m.slot c.args.nodes.now.knows c.loop-at.sets.knows c.loop-at.nodes.knows c.in-Some.link g c.requires.paths c.node-node.result low c.node-node.ensures.node c.raise.new.pass.knows r.0 r.1 r.2 r.3 c.raise.ensures.marked c.next-at.result next at_set),
    )

pub returns-clause-of : goal.returns-clause-of
returns-clause-of c = (c.loop-at.invariant.0, c.loop-at.invariant.1)

pub returns-clause-sets : goal.returns-clause-sets
returns-clause-sets c = let g = c.loop-at.invariant.2 in (g.chain, g.is)

pub returns-clause-raised : goal.returns-clause-raised
returns-clause-raised c =
    going_end c.args.sets.now.knows c.args.m.slot c.args.nodes.now.knows c.loop-at.sets.knows c.loop-at.nodes.knows (subst (Going c.args.sets.now.knows c.args.m.slot c.args.nodes.now.knows c.loop-at.sets.knows c.loop-at.nodes.knows) c.in_default.is c.loop-at.invariant.2)
