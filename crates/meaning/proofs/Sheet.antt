-- The sheet is right, by computing: one statement over each list.
-- Assumes nothing.
use mathlib.Core.Bool.{Bool, true, false, ◌&&◌}
use mathlib.Core.List.{List, [], ◌∷◌}
use mathlib.Core.Path.{◌≡◌, refl, ap, ap₂, subst, ◌∙◌}
use Prim.Native.Nat.{ℕ, ◌<◌}
use native.Mathlib.Omega.{arith}
use lib.Dec.{eqb, ltb}
use borrow.Author.Tests.{eqb-true, ltb-true}
use lib.ListN.{length}
use Rattle.meaning.specs.Context.{equations, Context, equations_of, differences_of}
use Rattle.meaning.specs.Rules.{variables}
use Rattle.meaning.specs.Text.{Reading, faulty, taken, rows_of, read, narrow, read_lines, lines_of, lines_from, digit, fields, is_listed, listed_as, size_of, entry_of, rank_of, put_context, put, put_clause, first_failing, is_nowhere, non_digit, legible, known, sized, ranked, room, named_by, table_of, no_row, refers, rows_agree, patterns_agree, agrees, tests_of, first_fault, spot_or, bad_byte, names_from, bad_field, offset_of}
use Rattle.meaning.specs.Writing.{digit_of, hex, frame, rows_text, statements_text, context_text, joins, sooner, insert, sorted, normal_of}
use Rattle.meaning.specs.Replies.{Reply, breach, none, refused, Replies, Normalised, normal, abnormal, Normalises}
use Rattle.meaning.specs.Formed.{Fit}
use Rattle.meaning.specs.ByTable.{same_list, clash_of, clash_from}
use Rattle.meaning.specs.Values.{numbers, number, stages, step, number_of, met, is_over, held, rows_at, levels, levels_from, level_of, highest}
use Rattle.meaning.specs.Following.{follows_by, differ_by}
use Rattle.meaning.specs.FirstBy.{first_by, seek, try_all, or_else, lowest, breaks, all_hold_by, holds_by}
use Rattle.meaning.specs.Sheet.{Example, gets, bytes, normalises, represents, equates, Shown, AllShown, sheet, further, fault, bytes_named}
use Rattle.meaning.specs.Closing.{move, total, close, agree, rounds, round, rows_pass, row_pass, stated_pass, upto, unite, unite_if, count}
use Rattle.meaning.proofs.Logic.{and-true-left, and-true-right}
use Rattle.meaning.proofs.Lists.{same_list-true}
use Rattle.meaning.proofs.Promised.{model-rows, closing-promise, closing-represents}
use Rattle.meaning.proofs.Taken.{read-formed}
use Rattle.meaning.proofs.Computed.{rep_of, reply_to, reply_on, judge, verdict, normal_on, settled}
use Rattle.meaning.proofs.Answered.{reply_to-replies, normal_on-normalises}

unfoldable same_reply : Reply → Reply → Bool
same_reply (breach l) (breach m) = same_list l m
same_reply (breach l) none = false
same_reply (breach l) (refused r) = false
same_reply none (breach m) = false
same_reply none none = true
same_reply none (refused r) = false
same_reply (refused r) (breach m) = false
same_reply (refused r) none = false
same_reply (refused r) (refused s) = (eqb r.number s.number && eqb r.place s.place) && eqb r.offset s.offset

same-reply : (r s : Reply) → same_reply r s ≡ true → r ≡ s
unfolding same_reply
same-reply (breach l) (breach m) t = ap breach (same_list-true l m t)
same-reply (breach l) none t = cc
same-reply (breach l) (refused r) t = cc
same-reply none (breach m) t = cc
same-reply none none t = refl
same-reply none (refused r) t = cc
same-reply (refused r) (breach m) t = cc
same-reply (refused r) none t = cc
same-reply (refused r) (refused s) t =
    let a : Bool = eqb r.number s.number in
    let b : Bool = eqb r.place s.place in
    let c : Bool = eqb r.offset s.offset in
    let n : r.number ≡ s.number = eqb-true _ _ (and-true-left a b (and-true-left (a && b) c t)) in
    let p : r.place ≡ s.place = eqb-true _ _ (and-true-right a b (and-true-left (a && b) c t)) in
    let o : r.offset ≡ s.offset = eqb-true _ _ (and-true-right (a && b) c t) in
    ap₂ (λ (x y : ℕ). refused (fault x y r.offset)) n p ∙ ap (λ (z : ℕ). refused (fault s.number s.place z)) o

unfoldable same_text : Normalised → List ℕ → Bool
same_text (normal l) m = same_list l m
same_text (abnormal r) m = false

same_text_lem : (x : Normalised) (m : List ℕ) → same_text x m ≡ true → x ≡ normal m
unfolding same_text
same_text_lem (normal l) m t = ap normal (same_list-true l m t)
same_text_lem (abnormal r) m t = cc

unfoldable represented : List ℕ → Reading → Bool
represented l (faulty f) = false
represented l (taken s) = same_list (close (rows_of s) (equations s.ledger.context)) l

unfoldable equated : ℕ → ℕ → Reading → Bool
equated i j (faulty f) = false
equated i j (taken s) =
    (ltb i (length (rows_of s)) && ltb j (length (rows_of s))) && eqb (rep_of s.ledger.context i) (rep_of s.ledger.context j)

unfoldable test : Example → Bool
test (gets text r) = same_reply (reply_to (bytes text)) r
test (normalises text n) = same_text (normal_on (read narrow (bytes text))) (bytes n)
test (represents text l) = represented l (read narrow (bytes text))
test (equates text i j) = equated i j (read narrow (bytes text))

unfoldable tests : List Example → Bool
unfolding same_reply same_text represented equated test bytes normal_on settled context_text rows_text statements_text frame hex digit_of normal_of joins sorted insert sooner reply_to reply_on judge verdict clash_of clash_from read read_lines lines_of lines_from digit fields is_listed listed_as size_of entry_of rank_of put_context put_clause put first_failing is_nowhere non_digit legible known sized ranked room named_by table_of no_row refers rows_agree patterns_agree agrees tests_of first_fault spot_or bad_byte names_from bad_field offset_of equations_of differences_of first_by seek try_all or_else lowest breaks all_hold_by holds_by numbers stages number step number_of met is_over held rows_at levels levels_from level_of highest differ_by follows_by same_list variables close rounds round rows_pass row_pass stated_pass upto unite_if agree unite count move total
tests [] = true
tests (e ∷ es) = test e && tests es

shown : (e : Example) → test e ≡ true → Shown e
unfolding test represented equated
shown (gets text r) t = subst (Replies narrow (bytes text)) (same-reply (reply_to (bytes text)) r t) (reply_to-replies (bytes text))
shown (normalises text n) t =
    subst (Normalises narrow (bytes text)) (same_text_lem (normal_on (read narrow (bytes text))) (bytes n) t) (normal_on-normalises (bytes text))
shown (represents text l) t = go (read narrow (bytes text)) refl t
  where
    go : (x : Reading) → read narrow (bytes text) ≡ x → represented l x ≡ true → Shown (represents text l)
    go (faulty f) e u = absurd (let z : ◌≡◌ {A = ℕ} 0 1 = cc in omega arith)
    go (taken s) e u =
        let c : Context = s.ledger.context in
        let f : Fit c = (read-formed narrow (bytes text) s e).fit in
        let q : close c.rows (equations c) ≡ l = same_list-true (close c.rows (equations c)) l u in
        (s, e, rw (← q) (closing-promise c f).long, rw (← q) (closing-represents c f))
shown (equates text i j) t = go (read narrow (bytes text)) refl t
  where
    go : (x : Reading) → read narrow (bytes text) ≡ x → equated i j x ≡ true → Shown (equates text i j)
    go (faulty f) e u = absurd (let z : ◌≡◌ {A = ℕ} 0 1 = cc in omega arith)
    go (taken s) e u =
        let c : Context = s.ledger.context in
        let a : Bool = ltb i (length c.rows) in
        let b : Bool = ltb j (length c.rows) in
        let d : Bool = eqb (rep_of c i) (rep_of c j) in
        let h : i < length c.rows = ltb-true _ _ (and-true-left a b (and-true-left (a && b) d u)) in
        let h' : j < length c.rows = ltb-true _ _ (and-true-right a b (and-true-left (a && b) d u)) in
        let f : Fit c = (read-formed narrow (bytes text) s e).fit in
        (s, e, h, h', (model-rows c f (rep_of c) (closing-represents c f) i j h h').1 (eqb-true _ _ (and-true-right (a && b) d u)))

all_shown_lem : (es : List Example) → tests es ≡ true → AllShown es
unfolding tests
all_shown_lem [] t = tt
all_shown_lem (e ∷ es) t = (shown e (and-true-left (test e) (tests es) t), all_shown_lem es (and-true-right (test e) (tests es) t))

pub sheet-shown : AllShown sheet
unfolding sheet tests
sheet-shown = all_shown_lem sheet refl

pub further-shown : AllShown further
unfolding further tests
further-shown = all_shown_lem further refl

pub bytes-shown : AllShown bytes_named
unfolding bytes_named tests
bytes-shown = all_shown_lem bytes_named refl
