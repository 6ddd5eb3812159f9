-- Layouts that lose something on the way, closings and finders that reply wrongly, tried at small tables and at more records than there may be.
--     some-said                                  the run of the table says its rows
--     no-swapped, no-swapped-said                two arguments that change places say another context, in records and in runs
--     no-exchanged, no-exchanged-said            so it is with a symbol and a count that change places
--     no_short, no-short-said                    and with a table that lacks its last row
--     some-unread                                but what stands in a place that is not read says nothing
--     no-clear-256, no-closed-256                256 records are not told clear, and not closed
--     no-unfit-unread, no-apart-unread           numbers past the count make nothing unfit, and keep no two rows apart
--     no-clear-runs .. no-apart-runs             so it is with runs made of these records
--     some-unfit-256, some-eight, some-joined    the right replies to them
-- Assumes nothing.
use mathlib.Core.List.{List, [], ◌∷◌, map}
use mathlib.Core.Path.{◌≡◌, refl, ap}
use Prim.Native.Nat.{ℕ, zero, suc, ◌*◌, ◌≤◌, ◌<◌}
use native.Mathlib.Omega.{arith}
use lib.ListN.{length, get_or, take, replicate, length-replicate}
use Rattle.meaning.specs.Context as C
use Rattle.meaning.specs.Context.{Context, row_at, terms, grow, pick, equations_of, differences_of}
use Rattle.meaning.specs.Equality.{rep_at, reflexive, Lowest}
use Rattle.meaning.specs.Formed.{Ordered}
use Rattle.meaning.specs.Rules.{Clause}
use Rattle.meaning.specs.Columns.{statements_from}
use Rattle.meaning.specs.Replies as M
use Rattle.meaning.specs.Replies.{breach, none, refused, refusal, places_of, empty}
use Rattle.meaning.specs.Closing.{count}
use Rattle.meaning.proofs.Closes.{length-count, rep_at-count}
use Rattle.runs.specs.Limits.{most_patterns, most_literals, arg_places}
use Rattle.runs.specs.Runs as R
use Rattle.runs.specs.Runs.{each}
use Rattle.records.specs.declared.ClauseColumns.{ClauseColumns}
use Rattle.replies.specs.declared.Refusal.{Refusal}
use Rattle.replies.specs.Told.{told_of}
use Rattle.classes.specs.declared.Answer.{Answer}
use Rattle.classes.specs.declared.Answer.TheVariants.{Closed, Unfit}
use Rattle.records.specs.declared.Row.{Row}
use Rattle.records.specs.declared.Statements.{Statements}
use Rattle.std.specs.Prelude.{Option, Some, None}
use Rattle.finder.specs.Claims.{refused_with}
use Rattle.replies.specs.declared.Outcome.TheVariants as O
use Rattle.replies.specs.declared.Reply.{Reply}
use Rattle.records.specs.Records.{no_row, row_of, context_of, FitRows}
use Rattle.records.specs.Layouts.{list_of, told, joined, row_piece, rule_of}
use Rattle.records.specs.Claims.{ClosedRows, ClosedTable, FitRule, Judges, judged, unfit, FindsTable, FindsRows}
use Rattle.records.proofs.Alike.{finds-over, closes-listed, finds-listed}

-- a, b and f(a, b)
abbrev pub table : List Row
table =
    record { symbol = 1; count = 0; args = replicate 4 0 }
    ∷ record { symbol = 2; count = 0; args = replicate 4 0 }
    ∷ record { symbol = 3; count = 2; args = 0 ∷ 1 ∷ 0 ∷ 0 ∷ [] }
    ∷ []

-- the rows that the run of records says
abbrev pub said_in : List Row → List C.Row
said_in rows = R.rows_of (joined (row_piece rows) (length rows))

pub some-said : said_in table ≡ map row_of table
unfolding R.rows_of each joined
some-said = refl

-- ---- arguments that change places

abbrev pub swapped : Row → Row
swapped r = record { symbol = r.symbol; count = r.count; args = get_or r.args 1 0 ∷ get_or r.args 0 0 ∷ get_or r.args 2 0 ∷ get_or r.args 3 0 ∷ [] }

pub no-swapped : (s : Statements) → context_of (map swapped table) s ≡ context_of table s → ⊥
unfolding context_of
no-swapped s e = omega (arith, ap (λ (c : Context). get_or (row_at c.rows 2).args 0 0) e)

pub no-swapped-said : said_in (map swapped table) ≡ map row_of table → ⊥
unfolding R.rows_of each joined
no-swapped-said e = omega (arith, ap (λ (l : List C.Row). get_or (row_at l 2).args 0 0) e)

-- ---- a symbol and a count that change places

abbrev pub exchanged : Row → Row
exchanged r = record { symbol = r.count; count = r.symbol; args = r.args }

pub no-exchanged : (s : Statements) → context_of (map exchanged table) s ≡ context_of table s → ⊥
unfolding context_of
no-exchanged s e = omega (arith, ap (λ (c : Context). (row_at c.rows 2).symbol) e)

pub no-exchanged-said : said_in (map exchanged table) ≡ map row_of table → ⊥
unfolding R.rows_of each joined
no-exchanged-said e = omega (arith, ap (λ (l : List C.Row). (row_at l 2).symbol) e)

-- ---- the last row left out

pub no_short : (s : Statements) → context_of (take 2 table) s ≡ context_of table s → ⊥
unfolding context_of
no_short s e = omega (arith, ap (λ (c : Context). length c.rows) e)

pub no-short-said : said_in (take 2 table) ≡ map row_of table → ⊥
unfolding R.rows_of each joined
no-short-said e = omega (arith, ap (λ (l : List C.Row). length l) e)

-- ---- places that are not read

-- the same, with other numbers from each count on
abbrev pub littered : List Row
littered =
    record { symbol = 1; count = 0; args = replicate 4 7 }
    ∷ record { symbol = 2; count = 0; args = replicate 4 65535 }
    ∷ record { symbol = 3; count = 2; args = 0 ∷ 1 ∷ 2 ∷ 255 ∷ [] }
    ∷ []

pub some-unread : (s : Statements) → context_of littered s ≡ context_of table s
unfolding context_of
some-unread s = refl

abbrev pub unstated : Statements
unstated = record { kinds = replicate 510 0; lefts = replicate 510 0; rights = replicate 510 0; count = 0 }

-- ---- 256 records

abbrev pub many : List Row
many = replicate 256 no_row

abbrev pub clear_reply : Option Reply
clear_reply = Some (record { outcome = O.Clear; places = replicate 4 255 })

too_many : 255 < length many
too_many = omega (arith, length-replicate {A = Row} 256 no_row)

pub no-clear-256 : (s : Statements) (k : ClauseColumns) → FindsRows many s k clear_reply → ⊥
no-clear-256 s k p = let e : clear_reply ≡ None = finds-over many too_many s k clear_reply p in let z : ◌≡◌ {A = ℕ} 0 1 = cc in omega arith

pub no-closed-256 : (s : Statements) (t : List ℕ) → ClosedRows many s (record { answer = Closed; table = t }) → ⊥
no-closed-256 s t p = omega (arith, too_many, p.closes.0.rows_few)

pub some-unfit-256 : (s : Statements) (k : ClauseColumns) → FindsRows many s k None
some-unfit-256 s k = record { judges = unfit (λ f r. omega (arith, too_many, f.rows_few)) }

-- ---- places that are not read

-- one constant twice, with no row's number in the places after it
abbrev pub twins : List Row
twins = no_row ∷ record { symbol = 0; count = 0; args = replicate 4 7 } ∷ []

twins-fit : FitRows twins unstated
unfolding context_of statements_from equations_of differences_of
twins-fit =
    record {
      rows_few = omega arith;
      statements-few = omega arith;
      counts-few = counts;
      fit = record { ordered = ordered; within = λ i h. absurd (omega arith); apart = λ i h. absurd (omega arith) };
    }
  where
    counts : (i : ℕ) → i < length twins → (get_or twins i no_row).count ≤ 4
    counts zero h = omega arith
    counts (suc zero) h = omega arith
    counts (suc (suc i)) h = absurd (omega arith)

    ordered : Ordered (context_of twins unstated).rows
    ordered zero h = tt
    ordered (suc zero) h = tt
    ordered (suc (suc i)) h = absurd (omega arith)

-- a rule with nothing in it
unfoldable pub no_clause : ClauseColumns
no_clause =
    record {
      patterns = 0;
      kinds = replicate most_patterns 0;
      heads = replicate most_patterns 0;
      counts = replicate most_patterns 0;
      args = replicate (most_patterns * arg_places) 0;
      literals = 0;
      signs = replicate most_literals 0;
      lefts = replicate most_literals 0;
      rights = replicate most_literals 0;
    }

rule-fit : FitRule no_clause
unfolding no_clause told joined R.patterns_of R.literals_of each
rule-fit =
    record {
      fit =
          record {
            patterns-few = omega arith;
            literals-few = omega arith;
            variables-few = λ i h. absurd (omega arith);
            counts-few = λ i h. absurd (omega arith);
            placed = tt;
            named = tt;
          };
    }

fit-unfit : (F G : Type 0) (c : Context) (k : Clause) (r : Option Reply) → F → G → r ≡ None → Judges F G c k r → ⊥
fit-unfit F G c k r f q e (judged f' q' m j z t l) = let z : ◌≡◌ {A = ℕ} 0 1 = cc in omega arith
fit-unfit F G c k r f q e (unfit n) = n f q

pub no-unfit-unread : FindsRows twins unstated no_clause None → ⊥
no-unfit-unread p = fit-unfit (FitRows twins unstated) (FitRule no_clause) (context_of twins unstated) (rule_of no_clause) None twins-fit rule-fit refl p.judges

pub no-apart-unread : (a : Answer) (t : List ℕ) → rep_at t 1 ≡ 1 → ClosedRows twins unstated (record { answer = a; table = t }) → ⊥
unfolding context_of terms grow pick
no-apart-unread Closed t e p = omega (arith, (p.closes.1.rows 1 (omega arith)).least 0 (omega arith) reflexive)
no-apart-unread Unfit t e p = p.closes.0 twins-fit

abbrev eight : Refusal
eight = record { number = 8; line = 0; offset = 0 }

pub some-eight : FindsRows twins unstated no_clause (Some (refused_with eight))
unfolding refused_with places_of no_clause told joined R.literals_of each
some-eight = record { judges = judged twins-fit rule-fit (refused (refusal 8 0)) (empty refl) (refused_with eight) refl refl }

abbrev united : List ℕ
united = 0 ∷ 0 ∷ count 253 2

pub some-joined : ClosedRows twins unstated (record { answer = Closed; table = united })
unfolding context_of terms grow pick
some-joined = record { closes = (twins-fit, record { long = omega (arith, length-count 253 2); rows = lowest; others = own }) }
  where
    lowest : (i : ℕ) → i < 2 → Lowest (context_of twins unstated) i (rep_at united i)
    lowest zero h = record { row = omega arith; equal = reflexive; least = λ j k e. omega arith }
    lowest (suc zero) h = record { row = omega arith; equal = reflexive; least = λ j k e. omega arith }
    lowest (suc (suc i)) h = absurd (omega arith)

    own : (i : ℕ) → 2 ≤ i → i < 255 → rep_at united i ≡ i
    own zero h k = absurd (omega arith)
    own (suc zero) h k = absurd (omega arith)
    own (suc (suc i)) h k = omega (arith, rep_at-count 253 2 i (omega arith))

-- ---- in runs

pub no-clear-runs : (s : Statements) (k : ClauseColumns) → FindsTable (list_of many) s k clear_reply → ⊥
no-clear-runs s k p = no-clear-256 s k (finds-listed many s k clear_reply p)

pub no-closed-runs : (s : Statements) (t : List ℕ) → ClosedTable (list_of many) s (record { answer = Closed; table = t }) → ⊥
no-closed-runs s t p = no-closed-256 s t (closes-listed many s (record { answer = Closed; table = t }) p)

pub no-unfit-runs : FindsTable (list_of twins) unstated no_clause None → ⊥
no-unfit-runs p = no-unfit-unread (finds-listed twins unstated no_clause None p)

pub no-apart-runs : (a : Answer) (t : List ℕ) → rep_at t 1 ≡ 1 → ClosedTable (list_of twins) unstated (record { answer = a; table = t }) → ⊥
no-apart-runs a t e p = no-apart-unread a t e (closes-listed twins unstated (record { answer = a; table = t }) p)
