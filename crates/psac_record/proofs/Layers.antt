-- What a record shows, by its parts.
use Rattle.std.proofs.Common.{◌≡◌, ◌∙◌, ap, sym}
use Rattle.std.specs.Prelude.{List}
use Rattle.std.specs.declared.boxed.Box.{Box}
use Rattle.std.specs.declared.alloc.Global.{Global}
use Rattle.psac_record.specs.declared.record.Record.{Record, fold-roll-Record}
use Rattle.psac_record.specs.declared.record.Record.TheOpen as layer
use Rattle.psac_record.specs.declared.record.Record.TheVariants as variants
use Rattle.psac_record.specs.declared.record.Record.TheBlock as block
use Rattle.psac_record.specs.declared.record.Record.TheViews as view
use Rattle.psac_record.specs.declared.record.Made.{Made}
use Rattle.psac_record.specs.declared.record.Wrote.{Wrote}
use Rattle.psac_record.specs.declared.record.Step.{Step}
use Rattle.psac_record.specs.declared.record.Both.{Both}
use Rattle.psac_record.specs.declared.record.Block.{Block}
use denote.Hole.Carrier
use Rattle.psac_record.specs.Kept.{Kept, E, A, W, S, P, R}
use Rattle.psac_record.specs.Shown.{shown, shown_step, leads, kept_of, chain_of}

pub kept_end : (tree : Record) → tree ≡ block.End → kept_of tree ≡ E
unfolding shown view.roll-Record Carrier.roll
kept_end tree h = ap kept_of h ∙ ap (λ s. s.0) (fold-roll-Record (Kept × List Kept) shown_step layer.End)

pub shown_made : (b : Box (Made Record) Global) → shown (view.Made b) ≡ leads (A b.value.modifiable (kept_of b.value.rest)) (chain_of b.value.next)
unfolding shown
shown_made b = ap shown (sym (variants.rolls-Made b)) ∙ fold-roll-Record (Kept × List Kept) shown_step (layer.Made b)

pub shown_wrote : (b : Box (Wrote Record) Global) → shown (view.Wrote b) ≡ leads (W b.value.modifiable b.value.value (kept_of b.value.rest)) (chain_of b.value.next)
unfolding shown
shown_wrote b = ap shown (sym (variants.rolls-Wrote b)) ∙ fold-roll-Record (Kept × List Kept) shown_step (layer.Wrote b)

pub shown_stepped : (b : Box (Step Record) Global) → shown (view.Step b) ≡ leads (S b.value.node (kept_of b.value.inner) (kept_of b.value.rest)) (chain_of b.value.next)
unfolding shown
shown_stepped b = ap shown (sym (variants.rolls-Step b)) ∙ fold-roll-Record (Kept × List Kept) shown_step (layer.Step b)

pub shown_both : (b : Box (Both Record) Global) → shown (view.Both b) ≡ leads (P b.value.node (kept_of b.value.left) (kept_of b.value.right)) (chain_of b.value.next)
unfolding shown
shown_both b = ap shown (sym (variants.rolls-Both b)) ∙ fold-roll-Record (Kept × List Kept) shown_step (layer.Both b)

pub shown_block : (b : Box (Block Record) Global) → shown (view.Block b) ≡ leads (R b.value.reading (kept_of b.value.inner)) (chain_of b.value.next)
unfolding shown
shown_block b = ap shown (sym (variants.rolls-Block b)) ∙ fold-roll-Record (Kept × List Kept) shown_step (layer.Block b)

pub kept_made : (tree : Record) (b : Box (Made Record) Global) → tree ≡ view.Made b → A b.value.modifiable (kept_of b.value.rest) ≡ kept_of tree
kept_made tree b h = sym (ap (λ s. s.0) (ap shown h ∙ shown_made b))

pub kept_wrote : (tree : Record) (b : Box (Wrote Record) Global) → tree ≡ view.Wrote b → W b.value.modifiable b.value.value (kept_of b.value.rest) ≡ kept_of tree
kept_wrote tree b h = sym (ap (λ s. s.0) (ap shown h ∙ shown_wrote b))

pub kept_stepped : (tree : Record) (b : Box (Step Record) Global) → tree ≡ view.Step b → S b.value.node (kept_of b.value.inner) (kept_of b.value.rest) ≡ kept_of tree
kept_stepped tree b h = sym (ap (λ s. s.0) (ap shown h ∙ shown_stepped b))

pub kept_both : (tree : Record) (b : Box (Both Record) Global) → tree ≡ view.Both b → P b.value.node (kept_of b.value.left) (kept_of b.value.right) ≡ kept_of tree
kept_both tree b h = sym (ap (λ s. s.0) (ap shown h ∙ shown_both b))

pub kept_block : (tree : Record) (b : Box (Block Record) Global) → tree ≡ view.Block b → R b.value.reading (kept_of b.value.inner) ≡ kept_of tree
kept_block tree b h = sym (ap (λ s. s.0) (ap shown h ∙ shown_block b))
