mod SaveLaws
mod TakeLaws
mod BringLaws
mod CopyLaws
