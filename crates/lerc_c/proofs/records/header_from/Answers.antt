use Rattle.lerc_c.proofs.RecordParts.{fit, header-fits, header-wide}
use Rattle.lerc_c.specs.Records.{fields_fit}
use mathlib.Core.Bool.{true}
use mathlib.Core.Path.{◌≡◌, ◌∙◌, sym}
use Rattle.lerc_c.proofs.records.header_from.Goals as goal
use Rattle.lerc_c.proofs.records.header_from.Goals.{Else-not-fields_fit}

-- the test was passed
narrow : (c : Else-not-fields_fit) → fields_fit c.args.l.now ≡ true
narrow c = sym c.fields_fit.ensures ∙ c.if-not-fields_fit.false

pub returns-then-not-fields_fit : goal.returns-then-not-fields_fit
returns-then-not-fields_fit c = header-wide c.args.l.now (sym c.fields_fit.ensures ∙ c.if-not-fields_fit.true)

pub overflow_cast-result : goal.overflow_cast-result
overflow_cast-result c = record { fits = (fit _ (narrow (goal.at.overflow_cast-result c).Else-not-fields_fit)).rows }

pub overflow_cast-result-2 : goal.overflow_cast-result-2
overflow_cast-result-2 c = record { fits = (fit _ (narrow (goal.at.overflow_cast-result-2 c).Else-not-fields_fit)).columns }

pub overflow_cast-result-3 : goal.overflow_cast-result-3
overflow_cast-result-3 c = record { fits = (fit _ (narrow (goal.at.overflow_cast-result-3 c).Else-not-fields_fit)).depth }

pub overflow_cast-result-4 : goal.overflow_cast-result-4
overflow_cast-result-4 c = record { fits = (fit _ (narrow (goal.at.overflow_cast-result-4 c).Else-not-fields_fit)).valid }

pub overflow_cast-result-5 : goal.overflow_cast-result-5
overflow_cast-result-5 c = record { fits = (fit _ (narrow (goal.at.overflow_cast-result-5 c).Else-not-fields_fit)).side }

pub overflow_cast-result-6 : goal.overflow_cast-result-6
overflow_cast-result-6 c = record { fits = (fit _ (narrow (goal.at.overflow_cast-result-6 c).Else-not-fields_fit)).size }

pub overflow_cast-result-7 : goal.overflow_cast-result-7
overflow_cast-result-7 c = record { fits = (fit _ (narrow (goal.at.overflow_cast-result-7 c).Else-not-fields_fit)).kind }

pub overflow_cast-result-8 : goal.overflow_cast-result-8
overflow_cast-result-8 c = record {
  fits =
      (fit _ (narrow (goal.at.overflow_cast-result-8 c).Else-not-fields_fit)).mask;
}

pub returns : goal.returns
returns c =
    header-fits c.args.l.now (narrow (goal.at.returns c).Else-not-fields_fit)
