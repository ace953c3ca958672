-- `counts::too_full` meets its contract: some count is too high exactly where the highest is.
use Rattle.std.proofs.Common.{sym, ap, ◌∙◌, ℕ, ◌-◌, ltb}
use Rattle.counts.proofs.CountLoops.{full_highest}
use Rattle.counts.proofs.too_full.Goals as goal

pub returns : goal.returns
returns c = ap (λ (m : ℕ). ltb (4294967295 - c.args.n) m) c.highest.ensures ∙ sym (full_highest _ _)
