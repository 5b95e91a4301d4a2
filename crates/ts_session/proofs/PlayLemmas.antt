-- Where a session is run in some way, files come to one status, and to one list of bytes but for that
-- of a run.
use Rattle.std.proofs.Common.{◌≡◌, refl, List}
use Rattle.ts_base.specs.Bytes.{Bytes}
use Rattle.ts_core.specs.declared.flat.FlatGrammar.{FlatGrammar}
use Rattle.spec_output.specs.declared.status.Status.{Status}
use Rattle.spec_output.specs.declared.status.Status.TheVariants.{Done}
use Rattle.ts_io.specs.Outside.{Files}
use Rattle.ts_query_syntax.specs.declared.read_query.ReadQuery.{ReadQuery}
use Rattle.ts_script.specs.declared.plan.Plan.{Plan}
use Rattle.ts_session.specs.Refusals.{Refuses}
use Rattle.ts_session.specs.Replays.{Plays, refused, printed}
use Rattle.ts_session.specs.Sessions.{IsLoaded, IsClear}

-- what is known of refusals
pub record RefusalLaws : Type 0 where
  pub status : (called : List Bytes) (files : Files) (gp sp : Bytes) (s t : Status) (b c : Bytes) → Refuses called files gp sp s b → Refuses called files gp sp t c → s ≡ t
  pub line : (called : List Bytes) (files : Files) (gp sp : Bytes) (s t : Status) (b c : Bytes) → Refuses called files gp sp s b → Refuses called files gp sp t c → b ≡ c
  pub loaded : (called : List Bytes) (files : Files) (gp sp : Bytes) (f : FlatGrammar) (plan : Plan) (queries : List ReadQuery) (openings : List Bytes) (s : Status) (b : Bytes) → IsLoaded called files gp sp f plan queries openings
      → Refuses called files gp sp s b → ⊥

record AreOne (s t : Status) (b c : Bytes) : Type 0 where
  pub status : s ≡ t
  pub bytes : (s ≡ Done → ⊥) → b ≡ c

module _ (Prints : FlatGrammar → Plan → List ReadQuery → List Bytes → Bytes → Type 0) where
  once : RefusalLaws → (called : List Bytes) (files : Files) (gp sp : Bytes) (s t : Status) (b c : Bytes) → Plays Prints called files gp sp s b → Plays Prints called files gp sp t c → AreOne s t b c
  once laws called files gp sp _ _ _ _ (refused s b r) (refused t c q) = record { status = laws.status called files gp sp s t b c r q; bytes = λ n. laws.line called files gp sp s t b c r q }
  once laws called files gp sp _ _ _ _ (refused s b r) (printed f plan queries openings c l p) = absurd (laws.loaded called files gp sp f plan queries openings s b l r)
  once laws called files gp sp _ _ _ _ (printed f plan queries openings c l p) (refused s b r) = absurd (laws.loaded called files gp sp f plan queries openings s b l r)
  once laws called files gp sp _ _ _ _ (printed f plan queries openings b l p) (printed h other more others c k q) = record { status = refl; bytes = λ n. absurd (n refl) }

  pub status_once : RefusalLaws → (called : List Bytes) (files : Files) (gp sp : Bytes) (s t : Status) (b c : Bytes) → Plays Prints called files gp sp s b → Plays Prints called files gp sp t c → s ≡ t
  status_once laws called files gp sp s t b c x y = (once laws called files gp sp s t b c x y).status

  pub bytes_once : RefusalLaws → (called : List Bytes) (files : Files) (gp sp : Bytes) (s t : Status) (b c : Bytes) → Plays Prints called files gp sp s b → Plays Prints called files gp sp t c → (s ≡ Done → ⊥) → b ≡ c
  bytes_once laws called files gp sp s t b c x y = (once laws called files gp sp s t b c x y).bytes

  pub clear_is_done : ((called : List Bytes) (files : Files) (gp sp : Bytes) (s : Status) (b : Bytes) → IsClear called files gp sp → Refuses called files gp sp s b → ⊥)
      → (called : List Bytes) (files : Files) (gp sp : Bytes) (s : Status) (b : Bytes) → IsClear called files gp sp → Plays Prints called files gp sp s b → s ≡ Done
  clear_is_done law called files gp sp _ _ c (refused s b r) = absurd (law called files gp sp s b c r)
  clear_is_done law called files gp sp _ _ c (printed f plan queries openings b l p) = refl
