-- What the functions ask and answer, of the runs that are lent to them as one struct: the words of `Steps`, `Memo` and `Prepare` over it.
-- Assumes nothing.
use Rattle.std.specs.Prelude.{Bool, List, ℕ}
use Rattle.search_pairs.specs.Steps.{TurnAt as TurnAtOver, Turned as TurnedOver, TwoClasses as TwoClassesOver, Followed as FollowedOver, Open as OpenOver, Settled as SettledOver, Classes as ClassesOver, Asked as AskedOver, ApartFrom as ApartFromOver, Clashing as ClashingOver, Marked as MarkedOver, Joined as JoinedOver, Meets as MeetsOver, Meeting as MeetingOver}
use Rattle.search_pairs.specs.Memo.{Asking as AskingOver, Recalled as RecalledOver, Memo as MemoOver}
use Rattle.search_pairs.specs.Prepare.{ArgIn as ArgInOver, ArgClass as ArgClassOver, RowIn as RowInOver, OverRow as OverRowOver, Matched as MatchedOver, BesideArgs as BesideArgsOver, TwoRows as TwoRowsOver, BesideRows as BesideRowsOver, BesideRow as BesideRowOver, RowPlaced as RowPlacedOver, Base as BaseOver, Placed as PlacedOver, LiveArgs as LiveArgsOver, LiveRow as LiveRowOver, LivePass as LivePassOver, Spread as SpreadOver, Connected as ConnectedOver}
use Rattle.search_pairs.specs.declared.Closed.{Closed}
use Rattle.search_pairs.specs.declared.labels.Sets.{Sets}
use Rattle.search_pairs.specs.declared.prepare.Ledger.{Ledger}

-- ---- a closed context

abbrev pub TurnAt : Closed → List ℕ → List ℕ → ℕ → Type 0
TurnAt s labels work r = TurnAtOver s.rows.now s.table.now s.sets.now labels work r

abbrev pub Turned : Closed → List ℕ → List ℕ → List ℕ → List ℕ → Bool → Type 0
Turned s labels work labels' work' b = TurnedOver s.rows.now s.table.now s.sets.now labels work labels' work' b

abbrev pub TwoClasses : Closed → List ℕ → List ℕ → ℕ → ℕ → Type 0
TwoClasses s labels work x y = TwoClassesOver s.rows.now s.table.now s.sets.now labels work x y

abbrev pub Followed : Closed → ℕ → ℕ → List ℕ → List ℕ → Bool → Type 0
Followed s x y labels work b = FollowedOver s.rows.now s.table.now s.sets.now x y labels work b

abbrev pub Settled : Closed → ℕ → ℕ → List ℕ → List ℕ → Bool → Type 0
Settled s x y labels work b = SettledOver s.rows.now s.table.now s.sets.now x y labels work b

abbrev pub Classes : Closed → List ℕ → List ℕ → ℕ → ℕ → Type 0
Classes s labels work x y = ClassesOver s.rows.now s.table.now s.sets.now labels work x y

abbrev pub Asked : Closed → ℕ → ℕ → List ℕ → List ℕ → Bool → Type 0
Asked s x y labels work b = AskedOver s.rows.now s.table.now s.sets.now x y labels work b

abbrev pub Asking : Closed → ℕ → List ℕ → List ℕ → List ℕ → ℕ → ℕ → Type 0
Asking s n labels work known x y = AskingOver n s.rows.now s.table.now s.sets.now labels work known x y

abbrev pub Recalled : Closed → ℕ → ℕ → List ℕ → List ℕ → List ℕ → Bool → Type 0
Recalled s x y labels work known b = RecalledOver s.rows.now s.table.now s.sets.now x y labels work known b

abbrev pub Memo : Closed → List ℕ → Type 0
Memo s known = MemoOver s.rows.now s.table.now s.sets.now known

-- ---- the sets of n rows

abbrev pub Open : Sets → ℕ → ℕ → Bool → Type 0
Open s x y b = OpenOver s.n s.sets.now x y b

abbrev pub ApartFrom : Sets → List ℕ → ℕ → ℕ → Bool → Type 0
ApartFrom s labels a y r = ApartFromOver s.n s.sets.now labels a y r

abbrev pub Clashing : Sets → List ℕ → ℕ → ℕ → Bool → Type 0
Clashing s labels x y r = ClashingOver s.n s.sets.now labels x y r

abbrev pub Marked : Sets → List ℕ → ℕ → List ℕ → List ℕ → Type 0
Marked s labels z work work' = MarkedOver s.n s.sets.now labels z work work'

abbrev pub Joined : Sets → ℕ → ℕ → List ℕ → List ℕ → List ℕ → List ℕ → Type 0
Joined s x y labels work labels' work' = JoinedOver s.n s.sets.now x y labels work labels' work'

abbrev pub Meets : Sets → List ℕ → List ℕ → ℕ → ℕ → Type 0
Meets s labels work x y = MeetsOver s.n s.sets.now labels work x y

abbrev pub Meeting : Sets → ℕ → ℕ → List ℕ → List ℕ → List ℕ → List ℕ → Bool → Type 0
Meeting s x y labels work labels' work' b = MeetingOver s.n s.sets.now x y labels work labels' work' b

-- ---- the rows of a context, and the table of their classes

abbrev pub ArgIn : Ledger → ℕ → ℕ → Type 0
ArgIn s r k = ArgInOver s.n s.rows.now s.table.now r k

abbrev pub ArgClass : Ledger → ℕ → ℕ → ℕ → Type 0
ArgClass s r k x = ArgClassOver s.n s.rows.now s.table.now r k x

abbrev pub RowIn : Ledger → ℕ → ℕ → Type 0
RowIn s len r = RowInOver s.n s.rows.now s.table.now len r

abbrev pub OverRow : Ledger → ℕ → ℕ → List ℕ → List ℕ → Type 0
OverRow s r count old new = OverRowOver s.n s.rows.now s.table.now r count old new

abbrev pub Matched : Ledger → ℕ → ℕ → ℕ → Type 0
Matched s len r other = MatchedOver s.n s.rows.now s.table.now len r other

abbrev pub BesideArgs : Ledger → ℕ → ℕ → ℕ → List ℕ → List ℕ → Type 0
BesideArgs s r other count old new = BesideArgsOver s.n s.rows.now s.table.now r other count old new

abbrev pub TwoRows : Ledger → ℕ → ℕ → ℕ → Type 0
TwoRows s len r other = TwoRowsOver s.n s.rows.now s.table.now len r other

abbrev pub BesideRows : Ledger → ℕ → ℕ → List ℕ → List ℕ → Type 0
BesideRows s r other old new = BesideRowsOver s.n s.rows.now s.table.now r other old new

abbrev pub BesideRow : Ledger → ℕ → ℕ → List ℕ → List ℕ → Type 0
BesideRow s r bound old new = BesideRowOver s.n s.rows.now s.table.now r bound old new

abbrev pub RowPlaced : Ledger → ℕ → List ℕ → List ℕ → Type 0
RowPlaced s r old new = RowPlacedOver s.n s.rows.now s.table.now r old new

abbrev pub Base : Ledger → ℕ → Type 0
Base s len = BaseOver s.n s.rows.now s.table.now len

abbrev pub Placed : Ledger → ℕ → List ℕ → List ℕ → Type 0
Placed s bound old new = PlacedOver s.n s.rows.now s.table.now bound old new

abbrev pub LiveArgs : Ledger → ℕ → ℕ → List ℕ → List ℕ → Bool → Type 0
LiveArgs s r count old new b = LiveArgsOver s.n s.rows.now s.table.now r count old new b

abbrev pub LiveRow : Ledger → ℕ → List ℕ → List ℕ → Bool → Type 0
LiveRow s r old new b = LiveRowOver s.n s.rows.now s.table.now r old new b

abbrev pub LivePass : Ledger → ℕ → List ℕ → List ℕ → Bool → Type 0
LivePass s r old new b = LivePassOver s.n s.rows.now s.table.now r old new b

abbrev pub Spread : Ledger → List ℕ → List ℕ → Type 0
Spread s old new = SpreadOver s.n s.rows.now s.table.now old new

abbrev pub Connected : Ledger → List ℕ → List ℕ → Type 0
Connected s old new = ConnectedOver s.n s.rows.now s.table.now old new
