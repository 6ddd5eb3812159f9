-- Where a rule is ready, what was read can be searched, and the first breach by the table, or none, is the finder's reply.
--     told-filled, told-ready     the filled parts of what was read, with the table
--     ready-answers               the first breach answers what was read
--     ready-replies               and is the reply to the text
-- Assumes nothing.
use mathlib.Core.List.{List}
use mathlib.Core.Path.{◌≡◌, sym, subst, subst₂}
use Prim.Native.Nat.{ℕ}
use native.Mathlib.Omega.{arith}
use Rattle.meaning.specs.Context.{Context}
use Rattle.meaning.specs.Equality.{rep_at}
use Rattle.meaning.specs.Rules.{Found, Answers, Clause}
use Rattle.meaning.specs.Text as M
use Rattle.meaning.specs.Text.{narrow}
use Rattle.meaning.specs.Replies.{answers, reply_of, Replies, RepliesTo}
use Rattle.meaning.proofs.Computes.{computed-first}
use Rattle.runs.proofs.Saying.{length-rows}
use Rattle.search.specs.Finding.{found_by}
use Rattle.hunting.specs.Laid.{Ready}
use Rattle.ruling.specs.Claims.{rows_in, said_in, patterns_in, literals_in, context_in, clause_in, Rules}
use Rattle.std.specs.Prelude.{Ok}
use Rattle.ruling.specs.declared.Ruled.{Ruled}
use Rattle.ruling.proofs.Saying.{rows_inside, said-inside, patterns-inside, literals-inside, told_fit, told-rule}
use Rattle.ruling.proofs.Ruling.{Stands, ready-stands, ready-consistent}
use Rattle.finder.specs.Claims.{Filled}

module _ (text : List ℕ) (p : Ruled) (rules : Rules text p) where
  pub told-filled : Filled p.told
  told-filled =
      record {
        in_rows = rows_inside text p.told rules.told;
        in-said = said-inside text p.told rules.told;
        in-patterns = patterns-inside text p.told rules.told;
        in-literals = literals-inside text p.told rules.told;
      }

  pub told-ready : Ready (rows_in p.told) (said_in p.told) (patterns_in p.told) (literals_in p.told) p.table
  told-ready = record { context = told_fit text p.told rules.told; rule = told-rule text p.told rules.told; closed = rules.closed }

  pub ready-answers : p.answer ≡ Ok tt
      → Answers (context_in p.told) (clause_in p.told) (found_by (context_in p.told) p.table (clause_in p.told))
  ready-answers e =
      computed-first (context_in p.told) (clause_in p.told) (ready-stands text p rules e).formed (ready-consistent text p rules e) (rep_at p.table) rules.closed.rows 65536
      (omega (arith, length-rows (rows_in p.told), (told_fit text p.told rules.told).rows_few))

  pub ready-replies : p.answer ≡ Ok tt → Replies narrow text (reply_of (found_by (context_in p.told) p.table (clause_in p.told)))
  ready-replies e =
      let w : Stands text p.told = ready-stands text p rules e in
      let f : Found = found_by (context_in p.told) p.table (clause_in p.told) in
      subst (λ (y : M.Reading). RepliesTo y (reply_of f)) (sym w.whole)
      (answers w.some w.consistent f (subst₂ (λ (c : Context) (k : Clause). Answers c k f) w.context w.clause (ready-answers e)))
