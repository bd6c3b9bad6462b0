use Rattle.std.proofs.Common.{codes, ap, rules}
use Rattle.std.proofs.lemmas.Slice.Eq.{text_from_reads}
use Rattle.call_list.specs.Lines.{name_of}
use Rattle.call_list.proofs.names.NameTryFromRefSliceU8.try_from.Goals as goal

pub returns-in-insert : goal.returns-in-insert
returns-in-insert c = ap name_of (text_from_reads c.args.word.now (codes "insert") (search rules) (search rules))

pub returns-in-delete : goal.returns-in-delete
returns-in-delete c = ap name_of (text_from_reads c.args.word.now (codes "delete") (search rules) (search rules))

pub returns-in-length : goal.returns-in-length
returns-in-length c = ap name_of (text_from_reads c.args.word.now (codes "length") (search rules) (search rules))

pub returns-in-capacity : goal.returns-in-capacity
returns-in-capacity c = ap name_of (text_from_reads c.args.word.now (codes "capacity") (search rules) (search rules))
