-- What is answered of the files of a grammar and a script.
use Rattle.std.specs.Prelude.{◌≡◌, ◌⊎◌, List, Result, Ok, Err}
use Rattle.ts_base.specs.Bytes.{Bytes}
use Rattle.spec_output.specs.declared.status.Status.{Status}
use Rattle.ts_io.specs.Outside.{Files}
use Rattle.ts_loading.specs.Loads.{AreQueries, GrewByEach}
use Rattle.ts_session.specs.Replays.{IsJudged}
use Rattle.ts_session.specs.Sessions.{IsLoaded, IsRefusal}
use Rattle.ts_session.specs.declared.answer.Unanswered.{Unanswered}
use Rattle.ts_session.specs.declared.answer.Unanswered.TheVariants.{Read, Memory}
use Rattle.ts_session.specs.declared.opened.Opened.{Opened}
use Rattle.ts_session.specs.declared.opened.Opened.TheVariants.{Ready, Refused}

-- the files come to this session, or this is their refusal
abbrev pub OpensAs : List Bytes → Files → Bytes → Bytes → Type 0 → List Bytes → List Bytes → Opened
    → Type 0
OpensAs called files grammar script rose old new (Ready s) =
    IsLoaded called files grammar script s.table.grammar s.plan s.queries s.texts.items
OpensAs called files grammar script rose old new (Refused a) =
    IsRefusal called files grammar script rose old new a.status a.bytes.items

-- The queries of a session were read, and the list of expressions grew by theirs, in their order.
abbrev pub HasReadQueries : List Bytes → List Bytes → List Bytes → Opened → Type 0
HasReadQueries called old new (Ready s) = AreQueries s.table.grammar called s.plan.queries s.queries
    × GrewByEach s.table.grammar called s.plan.queries old new
HasReadQueries called old new (Refused a) = Unit {0}

-- a refusal has a status that the files decide
abbrev pub HasStatus : Opened → Type 0
HasStatus (Ready s) = Unit {0}
HasStatus (Refused a) = IsJudged a.status

-- it is refused with this status and this line, or otherwise where the count rose, or it has no
-- answer
abbrev pub IsRefusedSo : Status → Bytes → Type 0 → Result Opened Unanswered → Type 0
IsRefusedSo ends line rose (Ok (Ready s)) = ⊥
IsRefusedSo ends line rose (Ok (Refused a)) =
    ((a.status ≡ ends) × (a.bytes.items ≡ line)) ⊎ rose
IsRefusedSo ends line rose (Err e) = Unit {0}

-- it is a session, or memory ran out
abbrev pub IsReadyOrMemory : Result Opened Unanswered → Type 0
IsReadyOrMemory (Ok (Ready s)) = Unit {0}
IsReadyOrMemory (Ok (Refused a)) = ⊥
IsReadyOrMemory (Err Read) = ⊥
IsReadyOrMemory (Err Memory) = Unit {0}
