-- The verdict by each way out of the code.
--     mine    what the functions of the crate's root leave to show
-- Assumes nothing.
use mathlib.Core.List.{List, []}
use mathlib.Core.Path.{◌≡◌, ap, ap₂, sym, ◌∙◌}
use Prim.Native.Nat.{ℕ, ◌+◌, ◌*◌, ◌≤◌, ◌<◌}
use native.Mathlib.Numerals.{add-one}
use native.Mathlib.Omega.{arith}
use borrow.Author.Rules.{rules}
use lib.ListN.{length, get_or, take, replicate, length-replicate}
use lib.Seq.{length-take-le}
use Rattle.meaning.specs.Context.{equations_of, differences_of}
use Rattle.meaning.specs.Rules.{variables}
use Rattle.meaning.specs.Grounds.{Verified, accepted, unassigned, bad, unconcluded}
use Rattle.meaning.specs.Checking.{keys_of, numbered, follows_by, concluded_by, Ends, assigned_by}
use Rattle.meaning.proofs.Entries.{length-entries}
use Rattle.meaning.proofs.Cited.{Ready}
use Rattle.meaning.proofs.Verdicts.{verdict-unassigned, all-assigned, verdict-bad, verdict-unconcluded, verdict-accepted}
use Rattle.runs.specs.Limits.{most_rows, most_statements, most_variables, row_size}
use Rattle.runs.specs.Runs.{row_count, rows_of, said_count, statements_of, context_of, pattern_count, patterns_of, literal_count, literals_of, clause_of}
use Rattle.runs.specs.Fit.{FitContext, FitClause}
use Rattle.runs.proofs.Saying.{length-rows, length-patterns, length-literals}
use Rattle.grounds_steps.specs.Steps.{steps_of}
use Rattle.grounds_steps.proofs.Saying.{steps-length}
use Rattle.grounds_numbers.specs.Limits.{most_entries, entry_run, pair_size, pair_run}
use Rattle.grounds_numbers.specs.Keys.{Keyed}
use Rattle.grounds_numbers.specs.Pairs.{pairs_of}
use Rattle.grounds_numbers.specs.Entries.{entries_of, entry_count, Fillable, Room, Filled}
use Rattle.grounds_numbers.proofs.Extending.{filled-keyed, filled-keys}
use Rattle.std.specs.Prelude.{Some, None}
use Rattle.grounds_verdict.specs.Tests.{FirstFalse, instances_in, concluded_in, follows_with, concluded_with}
use Rattle.grounds_verdict.specs.Claims.{WellFormed, Chosen}
use Rattle.grounds_verdict.specs.declared.Conclusions.{Conclusions}

-- ---- an assignment

module _ (rows said patterns literals a : List ℕ) (n height : ℕ) (eh : height ≡ row_count rows) (en : n ≡ variables (patterns_of patterns)) where
  all-ends : (v : ℕ) → Ends (assigned_by height a) n v → Ends (assigned_by (length (rows_of rows)) a) (variables (patterns_of patterns)) v
  all-ends v ends = rw (length-rows rows, ← eh, ← en) ends

  pub judge-unassigned : (steps : List (List ℕ)) (d : Conclusions) (v : ℕ) → FirstFalse (assigned_by height a) n (Some v)
      → Verified (context_of rows said) (clause_of patterns literals) a (steps_of steps) (concluded_in d) (unassigned v)
  judge-unassigned steps d v h =
      verdict-unassigned (context_of rows said) (clause_of patterns literals) a (steps_of steps) (concluded_in d) v (all-ends v h.1) (omega (arith, h.0))

  pub judge-chosen : length a ≡ most_variables → FirstFalse (assigned_by height a) n None → Chosen rows patterns a
  judge-chosen four ends =
      record {
        four = four;
        chosen = λ x l.
            let q : (x < length a) × (get_or a x 0 < length (rows_of rows)) =
            all-assigned (context_of rows said) (clause_of patterns literals) a (steps_of []) [] n (all-ends n ends) (omega arith) x l in
            (q.0, omega (arith, q.1, length-rows rows));
      }

-- ---- what is asked

pub fit-formed : (rows said patterns literals : List ℕ) → FitContext most_rows most_statements rows said → FitClause patterns literals → WellFormed rows said patterns literals
fit-formed rows said patterns literals c k =
    record {
      entries-few = omega (arith, c.rows_few, k.patterns-few);
      literals-few = k.literals-few;
      rows_few = c.counts-few;
      patterns-few = k.counts-few;
      formed = record { fit = c.fit; placed = k.placed; named = rw (length-patterns patterns) k.named };
    }

-- ---- parts of the runs that are made

pub part-long : (n : ℕ) (l : List ℕ) → n ≤ length l → n ≡ length (take n l)
part-long n l h = sym (length-take-le n l h)

module _ (rows said patterns literals : List ℕ) (c : FitContext most_rows most_statements rows said) (k : FitClause patterns literals) where
  pub made-pairs : (pairs : List ℕ) → pairs ≡ replicate pair_run 0 → said_count said * pair_size ≤ length pairs
  made-pairs pairs e = omega (arith, ap length e, length-replicate {A = ℕ} pair_run 0, c.said-few)

  module _ (n : ℕ) (en : n ≡ entry_count rows patterns) where
    few-entries : n ≤ most_entries
    few-entries = omega (arith, c.rows_few, k.patterns-few)

    module _ (ns : List ℕ) (e : ns ≡ replicate most_entries 0) where
      numbers-inside : n ≤ length ns
      numbers-inside = omega (arith, few-entries, ap length e, length-replicate {A = ℕ} most_entries 0)

      pub made-numbers : n ≡ length (take n ns)
      made-numbers = part-long n ns numbers-inside

      pub made-room : (keys : List ℕ) → keys ≡ replicate entry_run 0 → Room rows patterns (take (n * row_size) keys) (take n ns)
      made-room keys q =
          let h : n * row_size ≤ length keys = omega (arith, few-entries, ap length q, length-replicate {A = ℕ} entry_run 0) in
          record {
            keys-long = length-take-le (n * row_size) keys h ∙ ap (λ (z : ℕ). z * row_size) en;
            numbers-long = length-take-le n ns numbers-inside ∙ en;
          }

    pub made-keys : (keys : List ℕ) → keys ≡ replicate entry_run 0 → n * row_size ≡ length (take (n * row_size) keys)
    made-keys keys q = part-long (n * row_size) keys (omega (arith, few-entries, ap length q, length-replicate {A = ℕ} entry_run 0))

module _ (rows said patterns literals a : List ℕ) (w : WellFormed rows said patterns literals) (ch : Chosen rows patterns a) where
  pub judge-fillable : Fillable rows patterns a
  judge-fillable =
      record {
        few = w.entries-few;
        four = ch.four;
        rows_few = w.rows_few;
        patterns-few = w.patterns-few;
        ordered = w.formed.fit.ordered;
        placed = w.formed.placed;
        chosen = ch.chosen;
      }

  -- ---- the answers

  module _ (keys ns : List ℕ) (f : Filled (entries_of rows a patterns) keys ns (entry_count rows patterns)) where
    all-long : length (entries_of rows a patterns) ≡ entry_count rows patterns
    all-long = length-entries (rows_of rows) a (patterns_of patterns) ∙ ap₂ (λ (x y : ℕ). x + y) (length-rows rows) (length-patterns patterns)

    numbers-long : length ns ≡ entry_count rows patterns
    numbers-long = f.numbers-long ∙ all-long

    pub judge-keyed : Keyed keys (length ns)
    judge-keyed = filled-keyed (entries_of rows a patterns) keys ns (entry_count rows patterns) f (length ns) (omega (arith, numbers-long)) (omega (arith, all-long))

    ready : Ready (context_of rows said) (clause_of patterns literals) a ns
    ready =
        record {
          formed = w.formed;
          chosen = λ v h. ((ch.chosen v h).0, omega (arith, (ch.chosen v h).1, length-rows rows));
          faithful = rw (length-rows rows, length-patterns patterns) f.faithful;
        }

    module _ (n : ℕ) (en : n ≡ row_count rows) where
      pub judge-inside : n ≤ length ns
      judge-inside = omega (arith, numbers-long)

      instances : instances_in ns n ≡ pattern_count patterns
      instances = omega (arith, numbers-long)

      module _ (steps : List (List ℕ)) (d : Conclusions) where
        step-ends : (i : ℕ) → Ends (follows_with said literals keys ns n steps) (length steps) i
            → Ends (follows_by ns (length (rows_of rows)) (length (patterns_of patterns)) (keys_of ns (entries_of rows a patterns)) (numbered ns (equations_of (statements_of said))) (literals_of literals) (steps_of steps)) (length (steps_of steps)) i
        unfolding pairs_of
        step-ends i ei =
            rw (length-rows rows, length-patterns patterns, ← filled-keys (entries_of rows a patterns) keys ns (entry_count rows patterns) f all-long, steps-length steps, ← en, ← instances) ei

        pub judge-bad : (i : ℕ) → FirstFalse (follows_with said literals keys ns n steps) (length steps) (Some i)
            → Verified (context_of rows said) (clause_of patterns literals) a (steps_of steps) (concluded_in d) (bad (i + 1))
        judge-bad i h =
            rw (add-one i)
            (verdict-bad (context_of rows said) (clause_of patterns literals) a (steps_of steps) (concluded_in d) ns ready i (step-ends i h.1) (omega (arith, h.0, steps-length steps)))

        module _ (good : FirstFalse (follows_with said literals keys ns n steps) (length steps) None) where
          literal-ends : (j : ℕ) → Ends (concluded_with said literals ns n steps d) (literal_count literals) j
              → Ends (concluded_by ns (length (rows_of rows)) (length (patterns_of patterns)) (numbered ns (differences_of (statements_of said))) (literals_of literals) (steps_of steps) (concluded_in d)) (length (literals_of literals)) j
          unfolding pairs_of
          literal-ends j ej = rw (length-rows rows, length-patterns patterns, length-literals literals, ← en, ← instances) ej

          pub judge-open : (j : ℕ) → FirstFalse (concluded_with said literals ns n steps d) (literal_count literals) (Some j)
              → Verified (context_of rows said) (clause_of patterns literals) a (steps_of steps) (concluded_in d) (unconcluded (j + 1))
          judge-open j h =
              rw (add-one j)
              (verdict-unconcluded (context_of rows said) (clause_of patterns literals) a (steps_of steps) (concluded_in d) ns ready (length steps) j (step-ends (length steps) good) (omega (arith, steps-length steps)) (literal-ends j h.1)
              (omega (arith, h.0, length-literals literals)))

          pub judge-accepted : FirstFalse (concluded_with said literals ns n steps d) (literal_count literals) None
              → Verified (context_of rows said) (clause_of patterns literals) a (steps_of steps) (concluded_in d) accepted
          judge-accepted h =
              verdict-accepted (context_of rows said) (clause_of patterns literals) a (steps_of steps) (concluded_in d) ns ready (length steps) (literal_count literals) (step-ends (length steps) good) (omega (arith, steps-length steps)) (literal-ends (literal_count literals) h)
              (omega (arith, length-literals literals))

pub ruleset mine = (
  rules,
  judge-unassigned,
  judge-chosen,
  fit-formed,
  judge-keyed,
  judge-inside,
  judge-bad,
  judge-open,
  judge-accepted,
)
