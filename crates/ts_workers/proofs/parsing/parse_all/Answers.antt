use Rattle.std.proofs.Common.{◌∙◌, sym, ◌<◌, length}
use denote.Param.Send.{sendable}
use Rattle.std.proofs.Crossing.{crosses}
use Rattle.std.proofs.lemmas.Option.{slice_get_within, get_or_from_slice_get}
use Rattle.ts_text.proofs.text.Text.TheSendSync as text_sent
use Rattle.ts_workers.proofs.OpenLemmas.{if_both, left_there}
use Rattle.ts_workers.proofs.SendLemmas.{parsed_send, table_sync}
use Rattle.ts_workers.proofs.parsing.parse_all.Goals as goal

pub map_vec-requires-send-J : goal.map_vec-requires-send-J
map_vec-requires-send-J g c = λ κs lives. search (sendable, text_sent.the_send)

pub map_vec-requires-send-X : goal.map_vec-requires-send-X
map_vec-requires-send-X g c = λ κs lives. search (sendable, crosses, parsed_send) depth 12

pub map_vec-requires-sync-F : goal.map_vec-requires-sync-F
map_vec-requires-sync-F g c = λ κs lives. search (table_sync, sendable, crosses) depth 30 fits 5000

pub returns : goal.returns
returns g c = if_both _ _ _ c.map_vec.result c.map_vec.ensures.len c.map_vec.ensures.each (λ all count gives. record {
  count = sym all.ok.0 ∙ (count ∙ c.args.texts.ok.0);
  each = λ place text r t_is r_is.
      let lt : place < length c.args.texts.items = slice_get_within c.args.texts.items place text t_is in
      let at = (gives place r lt).1 in
      left_there c.args.table.now at.job text _ r
      (sym (at.job_is text) ∙ get_or_from_slice_get c.args.texts.items place text text t_is)
      (get_or_from_slice_get all.items place r r r_is)
      at.call.met;
})
