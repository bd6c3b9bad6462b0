use Rattle.std.proofs.Common.{rules}
use Rattle.places.specs.declared.record.Span.{Span}
use Rattle.places.proofs.Carried.{still_sound, still_behind, carried_more}
use Rattle.places.proofs.spans.Spans.carry.Goals as goal

-- What an absent slot would read as.
abbrev no_span : Span
no_span = record { start = 0; end = 0 }

pub after-requires-clause-forward : goal.after-requires-clause-forward
after-requires-clause-forward c =
    (still_sound c.args.edit c.args.self.now.slots c.loop-i.self.slots c.args.self.now.count c.loop-i.i no_span no_span (search rules) (search rules) (search rules) c.loop-i.invariant.1 c.requires).0

pub after-requires-clause-fits : goal.after-requires-clause-fits
after-requires-clause-fits c =
    (still_sound c.args.edit c.args.self.now.slots c.loop-i.self.slots c.args.self.now.count c.loop-i.i no_span no_span (search rules) (search rules) (search rules) c.loop-i.invariant.1 c.requires).1

pub loop-i-preserved : goal.loop-i-preserved
loop-i-preserved c = (
  carried_more c.args.edit c.args.self.now.slots c.loop-i.self.slots c.args.self.now.count c.loop-i.i c.after.result no_span (search rules) (search rules) (search rules) c.loop-i.invariant.1 c.after.ensures c.loop-i.invariant.0,
  still_behind c.args.edit c.args.self.now.slots c.loop-i.self.slots c.args.self.now.count c.loop-i.i c.after.result no_span (search rules) (search rules) (search rules) c.loop-i.invariant.1,
  search rules,
)
