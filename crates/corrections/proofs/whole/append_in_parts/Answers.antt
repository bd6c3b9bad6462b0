use Rattle.std.proofs.Common.{rules}
use Rattle.std.specs.Slice.Iter.{chunks_rest}
use Rattle.corrections.proofs.Appended.{appended_more}
use Rattle.corrections.proofs.whole.append_in_parts.Goals as goal

pub loop-part-preserved : goal.loop-part-preserved
loop-part-preserved g c = (
  appended_more (g.S.TextStore.text c.args.store.now) c.args.bytes.now (g.S.TextStore.text c.loop-part.store) (g.S.TextStore.text c.insert.new.self) c.in-Some.part.now (chunks_rest c.loop-part.part-iterator) (chunks_rest c.next.new.self) (g.S.TextStore.room c.loop-part.store) c.len-end.result (search rules) (search rules) (search rules) (search rules) (search rules) (search rules) (search rules),
  search rules,
  search rules,
)
