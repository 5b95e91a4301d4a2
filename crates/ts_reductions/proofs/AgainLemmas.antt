-- A token that is seen again behind a reduction.
use Rattle.std.proofs.Common.{◌≡◌, ◌∙◌, sym, subst, ℕ, List, [], length, slice_get, Some, arith}
use Rattle.std.specs.List.{Contains}
use Rattle.ts_base.specs.Bytes.{Bytes}
use Rattle.spec_graph.specs.declared.graph.Head.{Head}
use Rattle.spec_graph.specs.declared.graph.Link.{Link}
use Rattle.spec_graph.specs.States.{LeadsTo, by_goto}
use Rattle.ts_graph.specs.declared.view.GraphView.{GraphView}
use Rattle.ts_table.specs.declared.view.ParseTable.{ParseTable}
use Rattle.ts_table.specs.Tables.{goto_of, IsTable}
use Rattle.ts_reductions.specs.declared.batch.Batch.{Batch}
use Rattle.ts_reductions.specs.declared.made.Made.{Made}
use Rattle.ts_reductions.specs.declared.room.Room.{Room}
use Rattle.ts_reductions.specs.declared.setting.Setting.{Setting}
use Rattle.ts_reductions.specs.declared.top.Top.{Top}
use Rattle.ts_reductions.specs.Laws.{ReductionLaws}
use Rattle.ts_reductions.specs.Sound.{Base, parsing_from}
use Rattle.ts_reductions.specs.Asking.{IsReadyAt, IsReady, IsMadeFor, AreMade, ByTops}
use Rattle.ts_reductions.specs.Again.{SeesAgain, LedNone, AreLed}
use Rattle.ts_reductions.proofs.AddLemmas.{ready_at}
use Rattle.ts_reductions.proofs.AskLemmas as ask

module _ (laws : ReductionLaws) (t : ParseTable) (table : IsTable t) (text : Bytes) (s : Setting) (g : GraphView) (k : Batch) where
  -- of what is made for one reduction
  made_again : (top : Top) (number : ℕ) (way : List Link) (b : ℕ) (ready : IsReadyAt t text s g k top) (m : Made) (made : IsMadeFor t (length text) g k top number way b m) (head : Head) → slice_get g.heads top.head ≡ Some head
      → SeesAgain t text top.token head.state m.piece.state
  made_again top number way b ready m made head is read now place pad size before behind move sees =
      let due = ask.due laws t table text s g k top number way b ready made.asked in
      let high : Some due.top.head ≡ Some head = sym due.top.is ∙ is in
      let high_head : due.top.head ≡ head = cc in
      let low : Some due.bottom.head ≡ Some made.under = sym due.bottom.is ∙ made.under_is in
      let low_head : due.bottom.head ≡ made.under = cc in
      let over = subst (λ (x : Head). LeadsTo (goto_of t) (ask.over laws t table text s g k top number way b ready made.asked) x.state) high_head due.top.state in
      let under = subst (λ (x : Head). LeadsTo (goto_of t) (ask.now laws t table text s g k top number way b ready made.asked) x.state) low_head due.bottom.state in
      laws.again (parsing_from t text ready.base) ready.sound.laid.parsed.fit ready.sound.laid.parsed.states number made.asked.left made.asked.production (ask.now laws t table text s g k top number way b ready made.asked) made.asked.is read now place pad size top.token
      (head.state, before, subst (λ (r : List ℕ). LeadsTo (goto_of t) r head.state) due.reduces.read_is over)
      (m.piece.state, by_goto (ask.now laws t table text s g k top number way b ready made.asked) made.under.state made.asked.left m.piece.state under made.leads, behind) move sees

  -- of all that is made
  pub are_led : (base : Base) (tops : List Top) (ready : IsReady t text base s g k tops) (mades : List Made) → AreMade t (length text) g k (ByTops tops) mades → (room : Room) → room.mades.items ≡ mades → AreLed t text g tops room
  are_led base tops ready mades all room is state u led =
      let r = all.each led.made (subst (λ (l : List Made). Contains l led.made) is led.there) in
      let same : r.0 ≡ u = sym r.5.top_is ∙ led.top_is in (
        subst (λ (x : Top). Contains tops x) same r.4,
        λ head at.
            subst (λ (q : ℕ). SeesAgain t text u.token head.state q) led.state_is
            (subst (λ (x : Top). SeesAgain t text x.token head.state led.made.piece.state) same
            (made_again r.0 r.1 r.2 r.3 (ready_at t text base s g k tops ready r.0 r.4) led.made r.5 head (subst (λ (x : Top). slice_get g.heads x.head ≡ Some head) (sym same) at))),
      )

-- nothing is told where no reduction was done
pub led_nothing : (room : Room) → room.mades.items ≡ [] → LedNone room
led_nothing room none state top led = let h = subst (λ (l : List Made). Contains l led.made) none led.there in let low = h.1 in omega (arith, low)
