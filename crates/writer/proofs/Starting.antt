-- From a breach at hand to closed classes and the literals that are asked for.
--     ask-..       a literal by the numbers of its sides
--     state-..     stated pairs
--     close-..     closed classes
--     draw-..      the keys and the numbers of all entries
--     closed-..    what is drawn from them and from closed classes
--     mine         what these functions leave to show
-- Assumes nothing.
use mathlib.Core.Bool.{true, false}
use mathlib.Core.List.{List}
use mathlib.Core.Path.{◌≡◌, refl, sym, ap, ap₂, ◌∙◌, subst}
use Prim.Native.Nat.{ℕ, ◌+◌, ◌*◌, ◌≤◌, ◌<◌}
use native.Mathlib.Omega.{arith}
use borrow.Author.Rules.{rules}
use borrow.Author.Tests.{eq-eqb, ne_eqb}
use lib.ListN.{length, take, replicate}
use lib.Seq.{length-take-le}
use Rattle.meaning.specs.Values.{number_at}
use Rattle.meaning.specs.Checking.{numbered}
use Rattle.meaning.proofs.Entries.{length-entries}
use Rattle.runs.specs.Limits.{most_statements}
use Rattle.runs.specs.Runs.{row_count, rows_of, said_count, statements_of, context_of, patterns_of, sign_in, left_in, right_in, clause_of}
use Rattle.runs.proofs.Saying.{length-rows, length-patterns}
use Rattle.grounds_steps.specs.Steps.{most_steps}
use Rattle.grounds_numbers.specs.Limits.{most_numbers, pair_size, pair_run}
use Rattle.grounds_numbers.specs.Entries.{entries_of, entry_count, Fillable, Filled}
use Rattle.grounds_numbers.specs.Pairs.{pair_count, pairs_in, pairs_of, Held}
use Rattle.ruling.proofs.Saying.{part-long}
use Rattle.grounds_verdict.proofs.Judging.{fit-formed, made-numbers, made-room, made-keys, judge-fillable}
use Rattle.grounds_laws.specs.Limits.{draft_run, class_run}
use Rattle.grounds_laws.specs.Classes.{State, state_of}
use Rattle.grounds_laws.specs.Rounds.{blank}
use Rattle.grounds_classes.specs.Settling.{Entered, settled_by}
use Rattle.writer.specs.Drawing.{Broken, owner_by, asked_of, Stated, closed_by, Drawable, Drew, Entries, Closed, Shows}
use Rattle.writer.specs.declared.drawing.Asked.{Asked}
use Rattle.writer.specs.declared.drawing.Support.{Support}
use Rattle.writer.proofs.Showing.{drew-shown}

-- ---- a literal

pub owner-equal : (kind j : ℕ) → kind ≡ 6 → 0 ≡ owner_by kind j
unfolding owner_by
owner-equal kind j e = rw (eq-eqb kind 6 e, owner_by)

pub owner-unequal : (kind j : ℕ) → (kind ≡ 6 → ⊥) → j + 1 ≡ owner_by kind j
unfolding owner_by
owner-unequal kind j d = rw (ne_eqb kind 6 d, owner_by)

pub ask-made : (ns literals : List ℕ) (n j : ℕ) {kind p q left right owner : ℕ} → kind ≡ sign_in literals j → p ≡ left_in literals j → left ≡ number_at ns (n + p)
    → q ≡ right_in literals j
    → right ≡ number_at ns (n + q)
    → owner ≡ owner_by kind j
    → ◌≡◌ {A = Asked} (record { kind = kind; left = left; right = right; owner = owner }) (asked_of ns literals n j)
unfolding asked_of
ask-made ns literals n j {kind} ek ep el eq er eo =
    rw (eo, ek, el ∙ ap (λ (x : ℕ). number_at ns (n + x)) ep, er ∙ ap (λ (x : ℕ). number_at ns (n + x)) eq)

-- ---- stated pairs

pub state-room : (said pairs : List ℕ) → said_count said ≤ most_statements → length pairs ≡ pair_run → said_count said * pair_size ≤ length pairs
state-room said pairs h e = omega arith

pub state-stated : (ps : List (ℕ × ℕ)) (pairs run : List ℕ) (count m : ℕ) → Held ps run count → m ≡ count * pair_size → length run ≡ length pairs → length pairs ≡ pair_run
    → Stated ps run m
state-stated ps pairs run count m held em e f =
    let h : m ≤ length run = omega (arith, held.room) in
    record {
      inside = h;
      few = omega (arith, length-take-le m run h, h);
      says = ap (λ (z : ℕ). pairs_in (take z run)) em ∙ held.hold;
    }

module _ (ps : List (ℕ × ℕ)) (run : List ℕ) (m : ℕ) (w : Stated ps run m) where
  pub stated-inside : m ≤ length run
  stated-inside = w.inside

  pub stated-few : pair_count (take m run) < most_numbers
  stated-few = omega (arith, w.few)

  pub stated-apart : pair_count (take m run) + 1 < most_numbers
  stated-apart = omega (arith, w.few)

pub close-closed : (keys ns said run : List ℕ) (state : State) {after : State} {m : ℕ} → state ≡ blank → Stated (numbered ns (pairs_of true (statements_of said))) run m
    → after ≡ settled_by keys ns (take m run) state
    → after ≡ closed_by keys ns said
unfolding closed_by
close-closed keys ns said run state e w f = rw (← w.says, ← e) f

pub close-blank : {cells table : List ℕ} → cells ≡ replicate draft_run 0 → table ≡ replicate class_run 0 → state_of cells table ≡ blank
unfolding blank
close-blank e f = rw (e, f)

-- ---- all entries

pub draw-fillable : (rows said patterns literals a : List ℕ) → Broken rows said patterns literals a → Fillable rows patterns a
draw-fillable rows said patterns literals a w =
    judge-fillable rows said patterns literals a (fit-formed rows said patterns literals w.context w.rule) w.chosen

pub draw-entries : (rows said patterns literals a keys ns : List ℕ) → Broken rows said patterns literals a → Filled (entries_of rows a patterns) keys ns (entry_count rows patterns)
    → Entries rows said patterns literals a keys ns
draw-entries rows said patterns literals a keys ns w f = record { broken = w; filled = f }

module _ (rows said patterns literals a keys ns : List ℕ) (w : Entries rows said patterns literals a keys ns) where
  pub draw-stated : said_count said ≤ most_statements
  draw-stated = w.broken.context.said-few

  all-long : length (entries_of rows a patterns) ≡ entry_count rows patterns
  all-long = length-entries (rows_of rows) a (patterns_of patterns) ∙ ap₂ (λ (x y : ℕ). x + y) (length-rows rows) (length-patterns patterns)

  pub draw-entered : Entered keys
  draw-entered =
      record {
        numbers = omega (arith, w.filled.keys-long, all-long, w.broken.context.rows_few, w.broken.rule.patterns-few);
        few = λ x h. (w.filled.keyed x (omega (arith, w.filled.keys-long, all-long))).few;
      }

  pub draw-closed : (cells table : List ℕ) (steps : List (List ℕ)) → state_of cells table ≡ closed_by keys ns said → most_steps ≤ length steps
      → Closed rows said patterns literals a keys ns cells table steps
  draw-closed cells table steps e h = record { entries = w; closed = e; room = h }

module _ (rows said patterns literals a keys ns cells table : List ℕ) (steps : List (List ℕ)) (w : Closed rows said patterns literals a keys ns cells table steps) where
  pub closed-stated : said_count said ≤ most_statements
  closed-stated = draw-stated rows said patterns literals a keys ns w.entries

  module _ (run : List ℕ) (m n : ℕ) (apart : Stated (numbered ns (pairs_of false (statements_of said))) run m) (en : n ≡ row_count rows) where
    b : Broken rows said patterns literals a
    b = w.entries.broken

    pub closed-drawable : Drawable keys ns (take m run) literals n cells table steps
    unfolding closed_by pairs_of
    closed-drawable =
        record {
          context = context_of rows said;
          rule = clause_of patterns literals;
          places = a;
          formed = (fit-formed rows said patterns literals b.context b.rule).formed;
          chosen = λ v h. ((b.chosen.chosen v h).0, omega (arith, (b.chosen.chosen v h).1, length-rows rows));
          holds = b.holds;
          filled = rw (length-rows rows, length-patterns patterns) w.entries.filled;
          rows_few = omega (arith, length-rows rows, b.context.rows_few);
          patterns-few = omega (arith, length-patterns patterns, b.rule.patterns-few);
          literals-few = b.rule.literals-few;
          rows = en ∙ sym (length-rows rows);
          differences-said = apart.says;
          literals-said = refl;
          pairs-few = apart.few;
          entered = draw-entered rows said patterns literals a keys ns w.entries;
          closed = w.closed;
          room = w.room;
        }

    pub closed-shows : {r : Support} {steps' : List (List ℕ)} → Drew keys ns (take m run) literals n cells table steps r steps'
        → Shows rows said patterns literals a steps r steps'
    unfolding closed-drawable
    closed-shows e = record { shown = drew-shown keys ns (take m run) literals n cells table steps closed-drawable e }

-- the run that was lent holds the same at the end
pub shows-handed : {rows said patterns literals a : List ℕ} {steps w w' : List (List ℕ)} {s : Support} → w ≡ w' → Shows rows said patterns literals a steps s w'
    → Shows rows said patterns literals a steps s w
shows-handed {rows} {said} {patterns} {literals} {a} {steps} {s = s} e h = subst (Shows rows said patterns literals a steps s) (sym e) h

pub ruleset mine = (
  rules,
  part-long,
  owner-equal,
  owner-unequal,
  ask-made,
  state-room,
  state-stated,
  stated-inside,
  stated-few,
  stated-apart,
  close-closed,
  close-blank,
  made-numbers,
  made-room,
  made-keys,
  draw-fillable,
  draw-entries,
  draw-stated,
  draw-entered,
  draw-closed,
  closed-stated,
  closed-drawable,
  closed-shows,
)
