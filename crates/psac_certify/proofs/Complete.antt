-- Where all is accepted and nothing failed, a call without a script is done, or memory is wanting.
use Rattle.std.proofs.Common.{◌≡◌, ◌⊎◌, inl, inr, ℕ, List, Option}
use Rattle.psac_open.specs.Loaded.{Files, Words}
use Rattle.psac_run.specs.Reported.{AreAccepted, HasText, Report, Wrote}
use Rattle.psac_run.proofs.Complete.{zero}
use Rattle.psac_certify.specs.Answer.{IsDumpStatus}

pub complete_dump : (report : Report) (code : ℕ) (files : Files) (words : Words) (told before now : Option (List ℕ))
    (failed rose : Type 0)
    → IsDumpStatus code → (HasText code → Wrote report code files words told before now) → (code ≡ 3 → failed)
    → (code ≡ 7 → rose)
    → AreAccepted files words → (failed → ⊥) → (rose → ⊥) → (code ≡ 0) ⊎ (code ≡ 9)
complete_dump report code files words told before now failed rose status wrote shelf sink accepted fine well = by status
  where
    text : HasText code → (code ≡ 0) ⊎ (code ≡ 9)
    text has = inl (zero report code files words told before now accepted (wrote has))

    by : IsDumpStatus code → (code ≡ 0) ⊎ (code ≡ 9)
    by (inl e) = inl e
    by (inr (inl e)) = text (inr (inl e))
    by (inr (inr (inl e))) = absurd (fine (shelf e))
    by (inr (inr (inr (inl e)))) = text (inr (inr (inl e)))
    by (inr (inr (inr (inr (inl e))))) = text (inr (inr (inr e)))
    by (inr (inr (inr (inr (inr (inl e)))))) = absurd (well (sink e))
    by (inr (inr (inr (inr (inr (inr e)))))) = inr e
