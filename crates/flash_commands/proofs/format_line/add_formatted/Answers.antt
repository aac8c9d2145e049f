use Rattle.flash_commands.proofs.FormatFlash.{format-whole}
use Rattle.flash_commands.proofs.format_line.add_formatted.Goals as goal

pub returns : goal.returns
returns c = format-whole c.args.text.now.items c.add_named.new.text.items c.add_images.new.text.items c.args.done.now.layout c.args.done.now.version c.banks.result c.banks.ensures.value c.add_named.ensures.grows.items c.add_images.ensures.grows.items
