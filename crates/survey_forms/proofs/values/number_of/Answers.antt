-- `survey_forms::values::number_of` meets its contract. A value for k that has an admitted length has at most 3 digits.
use Rattle.survey.proofs.ValueLaws.{few_digits}
use Rattle.survey_forms.proofs.values.number_of.Goals as goal

pub spelt_at-requires : goal.spelt_at-requires
spelt_at-requires c = (few_digits _ c.args.len (rw c.in-K.is at c.requires.0), c.requires.1)
