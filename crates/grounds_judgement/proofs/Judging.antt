-- The ways out of the checker of grounds.
--     told-rows .. lent-clause          the runs that were told are what the checker asks for
--     judge-refused, judge-judged       the text's refusal, and the verdict
-- Assumes nothing.
use mathlib.Core.List.{List}
use mathlib.Core.Path.{◌≡◌, subst₂}
use Rattle.std.specs.Prelude.{Result, Ok, Err}
use Prim.Native.Nat.{ℕ, ◌≤◌}
use lib.ListN.{length}
use borrow.Author.Rules.{rules}
use Rattle.meaning.specs.Context.{Context}
use Rattle.meaning.specs.Rules.{Clause}
use Rattle.meaning.specs.Text.{narrow}
use Rattle.meaning.specs.Grounds.{Verified}
use Rattle.replies.specs.declared.Refusal.{Refusal}
use Rattle.replies.specs.Told.{meant}
use Rattle.runs.specs.Limits.{most_rows, most_statements}
use Rattle.runs.specs.Fit.{FitContext, FitClause}
use Rattle.grounds_steps.specs.Steps.{steps_of}
use Rattle.ruling.specs.Claims.{rows_in, said_in, patterns_in, literals_in, Rules}
use Rattle.ruling.specs.declared.Ruled.{Ruled}
use Rattle.ruling.proofs.Saying.{told_fit, told-rule, rows_inside, said-inside, patterns-inside, literals-inside}
use Rattle.ruling.proofs.Ruling.{Stands, ready-stands, refused-answers}
use Rattle.grounds_verdict.specs.Claims.{verdict_of, Judged}
use Rattle.grounds_verdict.specs.declared.Conclusions.{Conclusions}
use Rattle.grounds_verdict.specs.declared.Fault.{Fault}
use Rattle.grounds_judgement.specs.Judgements.{judged, weighs, judges}
use Rattle.grounds_judgement.specs.Claims.{concluded_in, JudgesTo}
use Rattle.grounds_judgement.proofs.Answers.{alike-refused}

module _ (text : List ℕ) (p : Ruled) (rules : Rules text p) where
  pub told-rows : p.told.filled.rows ≤ length p.told.rows
  told-rows = rows_inside text p.told rules.told

  pub told-said : p.told.filled.said ≤ length p.told.said
  told-said = said-inside text p.told rules.told

  pub told-patterns : p.told.filled.patterns ≤ length p.told.patterns
  told-patterns = patterns-inside text p.told rules.told

  pub told-literals : p.told.filled.literals ≤ length p.told.literals
  told-literals = literals-inside text p.told rules.told

  -- the runs that were told are lent
  module _ (rows said patterns literals : List ℕ) (er : rows ≡ rows_in p.told) (es : said ≡ said_in p.told) (ep : patterns ≡ patterns_in p.told) (el : literals ≡ literals_in p.told) where
    pub lent-context : FitContext most_rows most_statements rows said
    lent-context = rw (er, es) (told_fit text p.told rules.told)

    pub lent-clause : FitClause patterns literals
    lent-clause = rw (ep, el) (told-rule text p.told rules.told)

    pub judge-judged : (a : List ℕ) (steps : List (List ℕ)) (d : Conclusions) → p.answer ≡ Ok tt → (v : Result (Unit {0}) Fault) → Judged rows said patterns literals a steps d v
        → JudgesTo text a steps d (Ok v)
    judge-judged a steps d e v w =
        let s : Stands text p.told = ready-stands text p rules e in
        record {
          judges =
              judges s.what s.whole (judged (verdict_of v))
              (weighs s.some s.consistent (verdict_of v)
              (subst₂ (λ (c : Context) (k : Clause). Verified c k a (steps_of steps) (concluded_in d) (verdict_of v)) s.context s.clause (rw (er, es, ep, el) at w)));
        }

  pub judge-refused : (a : List ℕ) (steps : List (List ℕ)) (d : Conclusions) (x : Refusal) → p.answer ≡ Err x → JudgesTo text a steps d (Err x)
  judge-refused a steps d x e =
      record { judges = alike-refused a (steps_of steps) (concluded_in d) narrow text (meant x) (refused-answers text p rules x e) }

pub ruleset mine = (rules, told-rows, told-said, told-patterns, told-literals, lent-context, lent-clause, judge-judged, judge-refused)
