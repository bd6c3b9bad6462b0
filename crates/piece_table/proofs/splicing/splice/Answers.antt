use Rattle.std.proofs.Common.{◌≡◌, ◌-◌, ◌++◌, length, take, drop, vec_items, rules}
use Rattle.piece_table.proofs.Inside.{inside_at}
use Rattle.piece_table.proofs.Spliced.{spliced_is}
use Rattle.piece_table.proofs.splicing.splice.Goals as goal

pub back_of-requires : goal.back_of-requires
back_of-requires c =
    record { into = c.requires.back; low = λ h. inside_at 32768 c.args.pieces.now c.args.b.piece c.requires.low (c.requires.back h).0 }

pub returns : goal.returns
returns c =
    let list = c.args.pieces.now in
    let front : vec_items c.extend_from_slice.new.self ≡ vec_items c.clear.new.self ++ take c.args.a.piece list = search rules in
    let back : vec_items c.extend_from_slice-2.new.self ≡ vec_items c.push_kept-3.new.to ++ take (length list - c.past_of.result) (drop c.past_of.result list) = search rules in
    record {
      items = spliced_is list c.args.a c.args.new c.args.b c.past_of.result c.front_of.result c.back_of.result _ _ _ _ _ _ c.past_of.ensures c.front_of.ensures c.back_of.ensures c.clear.ensures.items front c.push_kept.ensures.items c.push_kept-2.ensures.items c.push_kept-3.ensures.items back;
      few = search rules;
      capacity = search rules;
    }
