use Rattle.std.proofs.Common.{rules}
use Rattle.std.proofs.lemmas.Str.{IsUtf8-from_ascii}
use Rattle.line_parts.specs.AsciiTexts.{text_of}
use Rattle.line_parts.proofs.ascii_text.AsciiText.as_str.Goals as goal

pub unwrap-requires : goal.unwrap-requires
unwrap-requires c = let valid = IsUtf8-from_ascii (text_of c.args.self.now) c.args.self.now.ascii in search rules
