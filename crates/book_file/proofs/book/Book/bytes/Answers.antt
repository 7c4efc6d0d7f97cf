use Rattle.book_file.proofs.Bytes.{three_parts}
use Rattle.book_file.proofs.book.Book.bytes.Goals as goal

pub returns : goal.returns
returns c =
    three_parts c.args.self.now.lists.items c.args.self.now.nodes.items c.deref.result.now c.deref-2.result.now c.deref-3.result.now
    c.new-bytes.result.items c.put_numbers.new.bytes.items c.put_numbers-2.new.bytes.items c.put_numbers-3.new.bytes.items
    c.args.self.now.whole c.deref.ensures.value c.deref-2.ensures.value c.deref-3.ensures.value c.new-bytes.ensures.items
    c.in_ok-put_numbers.ensures c.in_ok-put_numbers-2.ensures c.in_ok-put_numbers-3.ensures
