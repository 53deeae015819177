-- What the writer of the pass log says and leaves. Definitions only.
pub mod Writer
