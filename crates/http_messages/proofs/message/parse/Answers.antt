use Rattle.http_messages.proofs.Parsing.{never_parsed}
use Rattle.http_messages.proofs.message.parse.Goals as goal

pub returns-clause-never : goal.returns-clause-never
returns-clause-never c = never_parsed c.parse_request.result c.args.text.now _ c.requires.short c.requires.room c.parse_request.ensures.invalid c.parse_request.ensures.too_many
