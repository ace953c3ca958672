-- `settings::read_as` meets its contract: by cases on whether the capital is U, and on whether U is read as T.
use mathlib.Core.Path.{sym, ◌∙◌}
use Rattle.settings.proofs.Ranks.{uppercase_capital, read_U_as_T, read_own, read_other}
use Rattle.settings.proofs.read_as.Goals.{else-c-eq85-via-then-c-eq85+else-reads_u_as_t, else-c-eq85-via-else-c-eq85}
use Rattle.settings.proofs.read_as.Goals as goal

pub returns-then-reads_u_as_t : goal.returns-then-reads_u_as_t
returns-then-reads_u_as_t c =
    read_U_as_T _ _ (sym (c.to_ascii_uppercase-c.ensures.value ∙ uppercase_capital _) ∙ c.if-c-eq85.true) c.if-reads_u_as_t.ensures

pub returns-else-c-eq85 : goal.returns-else-c-eq85
returns-else-c-eq85 c =
    let own = c.to_ascii_uppercase-c.ensures.value ∙ uppercase_capital _ in
    own ∙ elim c.else-c-eq85.branch [
      | else-c-eq85-via-then-c-eq85+else-reads_u_as_t w ↦ read_own _ _ w.if-reads_u_as_t.ensures
      | else-c-eq85-via-else-c-eq85 w ↦ read_other _ _ (λ u. w.if-c-eq85.false (own ∙ u))
    ]
