-- A try to take a turn, after tries that took none, is as the first.
use Rattle.std.proofs.Common.{◌≡◌, subst, ℕ, List, [], arith}
use Rattle.ts_shelf.specs.declared.journal.Entry.{Entry}
use Rattle.ts_shelf.specs.declared.view.View.{View}
use Rattle.ts_shelf.specs.Tried.{Waited, Ended, TookTurn}
use Rattle.ts_shelf.specs.Views.{Seated, told_view}

module _ {J S I : Type 0} where
  pub waits_at_first : (m : Seated J S I) → m.1 ≡ [] → Waited m.0 m
  waits_at_first m e = (m.0.knows.reached, omega arith, (λ k. (m.0, e k)))

  pub ends_after : (v : View S I) (m n : Seated J S I) → Waited v m → Ended m.0 n → Ended v n
  ends_after v m n w end =
      let after : Ended (told_view v w.0) n = subst (λ (x : Seated J S I). Ended x.0 n) w.2 end in
      ((let a = w.1 in let b = after.0 in omega arith), after.1)

  pub takes_after : (entries : J → List (Entry I)) (room : J → ℕ) (opening : J → S)
      (fits : S → I → Type 0) (v : View S I) (t : ℕ)
      (m n : Seated J S I) → Waited v m → TookTurn entries room opening fits m.0 t n
      → TookTurn entries room opening fits v t n
  takes_after entries room opening fits v t m n w took =
      let after : TookTurn entries room opening fits (told_view v w.0) t n =
      subst (λ (x : Seated J S I). TookTurn entries room opening fits x.0 t n) w.2 took in
      (after.0, (let a = w.1 in let b = after.1 in omega arith), after.2)
